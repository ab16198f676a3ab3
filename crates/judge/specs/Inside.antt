-- Items that are judged by themselves (change request 2026-06: an element is put into a tree, and there is no object around it that could be read).
use Rattle.std.specs.Prelude.{List, [], ℕ, suc, leb, length}
use Rattle.format.specs.Judge.{Judged, Context, rule, unless, read}

-- the items of an element of a tag and a depth: none of them was read, there is no token table, and no attribute waits for one
unfoldable pub beginning : (element depth : ℕ) → Context
beginning element depth = record { parent = element; depth = suc depth; stage = 0; seen = []; table = []; waiting = [] }

-- rule 1, but that there may be no items, and then all others of items in such an element; places count from the first of these octets
unfoldable pub judge_inside : (element depth : ℕ) → List ℕ → Judged
judge_inside element depth o = let a = read (beginning element depth) 0 o in unless (rule 1 0 (leb (length o) 32_768)) a
