use native.Mathlib.Omega.{arith}
use Rattle.std.proofs.lemmas.Result.{err_from_is_err_and}
use Rattle.xml.proofs.Exporting.{export-refused, export-plain, export-written}
use Rattle.xml.proofs.export.Goals as goal

pub returns-in_err-place : goal.returns-in_err-place
returns-in_err-place c =
    let p = err_from_is_err_and c.from_residual.result c.from_residual.ensures.1 in
    rw (p.1, p.2) (export-refused _ _ _ c.find_first.ensures _ c.in_err-place.was)

pub returns-in-Some : goal.returns-in-Some
returns-in-Some c = export-plain _ _ _ c.find_first.ensures _ c.in_ok-place.was _ c.in-Some.is _ c.refuse.ensures

pub returns-in-None : goal.returns-in-None
returns-in-None c =
    export-written _ _ _ c.find_first.ensures _ c.in_ok-place.was c.in-None.is (λ i. omega (arith, c.type_inv.object i)) _ _ c.write_out.ensures
