-- Request 2026-09: from the order of reading, and from format's law of how many headers there are.
use Rattle.std.specs.Prelude.{Ok}
use mathlib.Core.Path.{◌≡◌, refl, sym, ap}
use mathlib.Core.List.{List, [], ◌∷◌}
use Prim.Native.Nat.{ℕ}
use native.Mathlib.Omega.{arith}
use Rattle.octets.specs.Numbers.{among, value}
use Rattle.octets.specs.Header.{header_size, body_size}
use Rattle.octets.proofs.Tests.{never}
use Rattle.text.specs.Text.{layout, token, character, single, goes_on, utf8, text}
use Rattle.text.specs.Tokens.{entry, or_itself, stands, expanded, present, covers, covered, shown_length}
use Rattle.values.specs.Table.{rows, kind_in, known, attribute}
use Rattle.values.specs.Values.{fits}
use Rattle.format.specs.declared.Counts.{Counts}
use Rattle.format.specs.Tree.{Items, count}
use Rattle.format.specs.Tree.Items.{end, item}
use Rattle.format.specs.Judge.{Judged, is_known, is_items, is_tokens, is_text, is_value, wrong_in, is_top, allowed, latest, stage_after, limit, not_above, shown, of_top, rule, value_rule, first, kind_rules, item_rules, own, late, late_before, late_after, broken, within, waits, next, unless, followed, joined, by_kind, items, outermost, judge}
use Rattle.format.specs.Judge.Judged.{refused, accepted}
use Rattle.format.specs.Headers.{headers_in, headers_of}
use Rattle.format.specs.Calls.{counts_of, judge_answer}
use Rattle.format.specs.Bench.{accented}
use Rattle.format.proofs.Headers.{few-headers}
use Rattle.format.proofs.Examples.{counted-headers, unknown-counts}
use Rattle.demands.specs.One.{ReadOrder}
use Rattle.demands.specs.Bench.{listed_object}
use Rattle.demands.specs.Requests.{named, recommended}
use Rattle.demands.specs.Headers.{CountsHeaders, HeadersCounted, unknown_inside, InsidesLeftOut}
use Rattle.demands.proofs.One.{read-in-order, read-at-most-in-order, read-records-in-order}

-- those of the objects that other demands name
pub headers-named : (headers_of listed_object ≡ 2) × (headers_of (named 8) ≡ 3) × (headers_of (recommended 1) ≡ 4)
unfolding headers_in header_size body_size value rows kind_in known attribute is_items accented
headers-named = (refl, refl, refl)

-- ---- what each call counts
counts-headers : (object : List ℕ) (t : Items) → judge object ≡ accepted t → (counts : Counts) → counts.records ≡ count t → counts.items ≡ headers_of object
    → CountsHeaders object counts
counts-headers object t h counts n i =
    let f = few-headers object t h in
    record { framed = i; half = omega (arith, i, f.half); records = omega (arith, n, i, f.records) }

order-counts : (object : List ℕ) (places : ℕ) (counts : Counts) → ReadOrder (judge object) places (headers_of object) (Ok counts) → CountsHeaders object counts
order-counts object places counts order =
    let f = (order.records counts.records counts.items).0 refl in
    counts-headers object f.0 f.1 counts f.2 f.3

judged-counts : (object : List ℕ) (counts : Counts) (j : Judged) → judge object ≡ j → Ok counts ≡ judge_answer (headers_of object) j
    → CountsHeaders object counts
unfolding judge_answer
judged-counts object counts (refused r) h e = never (cc)
judged-counts object counts (accepted t) h e =
    let w : counts ≡ counts_of (headers_of object) t = cc in
    counts-headers object t h counts (ap (λ c. c.records) w) (ap (λ c. c.items) w)

pub headers-counted : HeadersCounted
headers-counted = record {
  read = λ object before after counts c. order-counts object _ counts (read-in-order object before after (Ok counts) c);
  read_at_most = λ object most before after counts c. order-counts object _ counts (read-at-most-in-order object most before after (Ok counts) c);
  read_records =
      λ object before after slice slice' counts c. order-counts object _ counts (read-records-in-order object before after slice slice' (Ok counts) c);
  judged = λ object counts e. judged-counts object counts (judge object) refl e;
}

-- ---- the insides of an unknown item

-- the tree has the top and its CDATA alone
abbrev tree_of_known : Items
tree_of_known = item 0x03 2 (0x05 ∷ 0x04 ∷ 0x10 ∷ 0x00 ∷ 0x10 ∷ 0x00 ∷ 0x01 ∷ 0x01 ∷ 0x61 ∷ []) (item 0x01 10 (0x61 ∷ []) end end) end

unknown-judged : judge unknown_inside ≡ accepted tree_of_known
unfolding among value header_size body_size layout token character single goes_on utf8 text entry or_itself stands expanded present covers covered shown_length rows kind_in known attribute fits is_known is_items is_tokens is_text is_value wrong_in is_top allowed latest stage_after limit not_above shown of_top rule value_rule first kind_rules item_rules own late late_before late_after broken within waits next unless followed joined by_kind items outermost judge
unknown-judged = refl

pub insides-left-out : InsidesLeftOut
unfolding count
insides-left-out = record {
  read = λ before after answer c l. ((read-in-order unknown_inside before after answer c).records 2 3).1 (tree_of_known, unknown-judged, refl, sym counted-headers.3, l);
  absurdly = λ before after n c. unknown-counts.1 (sym (headers-counted.read unknown_inside before after (record { records = n; items = 5 }) c).framed);
}
