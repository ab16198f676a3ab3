-- The late rule 12: what waits, and the scan over it.
use mathlib.Core.Path.{◌≡◌, refl, sym, ap, ◌∙◌}
use mathlib.Core.Bool.{Bool, true, false, not, ◌||◌}
use mathlib.Core.Option.{Option}
use mathlib.Core.List.{List, [], ◌∷◌, ◌++◌, append-nil}
use Prim.Native.Nat.{ℕ, ◌+◌, ◌-◌, ◌≤◌, ◌<◌}
use native.Mathlib.Omega.{arith}
use native.Mathlib.Nat.{add-zero, add-sub_cancel_left}
use lib.ListN.{length, get_or, take, drop, length-drop}
use lib.Seq.{drop-drop, get_or-drop}
use mir.Syntax.{w64}
use mir.Val.{Fits}
use Rattle.octets.specs.Header.{header_size}
use Rattle.octets.proofs.Frames.{header-two}
use Rattle.octets.proofs.Answers.{header-past}
use Rattle.octets.proofs.Lists.{part_to_end}
use Rattle.text.specs.Tokens.{Entries, entries, covered}
use Rattle.values.specs.declared.Kind.{Kind}
use Rattle.values.specs.Table.{known}
use Rattle.format.specs.declared.Refusal.{Refusal}
use Rattle.format.specs.Answers.{refusal}
use Rattle.format.specs.Judge.{is_text, rule, first, late, waits}
use Rattle.format.proofs.Rules.{first_one}
use Rattle.octets.specs.Calls.{header_of, span}
use Rattle.octets.specs.declared.Span.{Span}
use Rattle.judge.specs.Says.{checked, Framed, Waits, WaitsWhen, LateSays}
use Rattle.judge.specs.Says.Waits.{done, more}
use Rattle.std.specs.Prelude.{Result, Ok, Err, ⊤, Some, None, Option as Optional}
use Rattle.judge.proofs.OwnWays.{framed}

-- the late 12 over what waits of one attribute and then of the later ones
late-waits : (T : Entries) (o : Option Kind) (at : ℕ) (body : List ℕ) (later : List (ℕ × List ℕ))
    → late T (waits o [] at body ++ later) ≡ first (rule 12 at (not (is_text o) || covered T body) ∷ late T later ∷ [])
unfolding late waits rule first
late-waits T o at body later = go (is_text o) refl
  where
    go : (b : Bool) → is_text o ≡ b → late T (waits o [] at body ++ later) ≡ first (rule 12 at (not b || covered T body) ∷ late T later ∷ [])
    go true e = rw e
    go false e = rw e (sym (first_one (late T later)))

-- one attribute more at the end
pub waits-from : (o : Option Kind) (ws : List (ℕ × List ℕ)) (at : ℕ) (body : List ℕ) → waits o ws at body ≡ ws ++ waits o [] at body
unfolding waits
waits-from o ws at body = go (is_text o) refl
  where
    go : (b : Bool) → is_text o ≡ b → waits o ws at body ≡ ws ++ waits o [] at body
    go true e = rw e
    go false e = rw e (sym (append-nil ws))

-- the attribute at a place before the end
pub record Next (parent base : ℕ) (part : List ℕ) (stop j : ℕ) (ws : List (ℕ × List ℕ)) (start size : ℕ) : Type 0 where
  pub later : List (ℕ × List ℕ)
  pub fits : j + start + size ≤ stop
  pub bound : stop ≤ length part
  pub is : ws ≡ waits (known parent (get_or (drop j part) 0 0)) [] (base + j) (take size (drop start (drop j part))) ++ later
  pub there : Waits parent base part stop (j + start + size) later

moved : (parent base : ℕ) (part : List ℕ) (stop j : ℕ) (ws : List (ℕ × List ℕ)) (a b start size : ℕ) → a ≡ start → b ≡ size → Next parent base part stop j ws a b → Next parent base part stop j ws start size
moved parent base part stop j ws a b start size e f n = rw (← e, ← f) n

next-at : (parent base : ℕ) (part : List ℕ) (stop j : ℕ) (ws : List (ℕ × List ℕ)) → Waits parent base part stop j ws → j < stop → (start size : ℕ) → Framed (drop j part) start size → Next parent base part stop j ws start size
next-at parent base part stop j ws (done _ _ _ _ _ _ e f) h start size fr = absurd (omega arith)
next-at parent base part stop j ws (more _ _ _ _ _ _ a b later two g i k l m) h start size fr =
    moved parent base part stop j ws a b start size (sym g.is_start ∙ fr.is_start) (sym g.is_size ∙ fr.is_size) (record { later = later; fits = i; bound = k; is = l; there = m })

in-front : (parent base : ℕ) (part : List ℕ) (stop j : ℕ) (ws : List (ℕ × List ℕ)) → Waits parent base part stop j ws → j < stop → header_size (drop j part) ≤ length (drop j part)
in-front parent base part stop j ws (done _ _ _ _ _ _ e f) h = absurd (omega arith)
in-front parent base part stop j ws (more _ _ _ _ _ _ a b later two g i k l m) h = omega arith

at-stop : (parent base : ℕ) (part : List ℕ) (stop j : ℕ) (ws : List (ℕ × List ℕ)) → Waits parent base part stop j ws → stop ≤ j → ws ≡ []
at-stop parent base part stop j ws (done _ _ _ _ _ _ e f) h = f
at-stop parent base part stop j ws (more _ _ _ _ _ _ a b later two g i k l m) h = absurd (omega arith)

-- how far the scan came
pub record Reached (parent base : ℕ) (part : List ℕ) (run at : ℕ) (T : Entries) (ws : List (ℕ × List ℕ)) : Type 0 where
  pub later : List (ℕ × List ℕ)
  pub there : Waits parent base part run at later
  pub same : late T ws ≡ late T later

pub record Scans (part : List ℕ) (run parent base : ℕ) (table : List ℕ) (at : ℕ) : Type 0 where
  pub within : at ≤ length part
  pub reached : (ws : List (ℕ × List ℕ)) → Waits parent base part run 0 ws → Reached parent base part run at (entries table) ws

-- the tag of the item at a place
pub tag_at : (part : List ℕ) (at : ℕ) → get_or part at 0 ≡ get_or (drop at part) 0 0
tag_at part at = sym (get_or-drop at part 0 0 ∙ ap (λ (x : ℕ). get_or part x 0) (add-zero at))

-- the body of the item at a place
pub body_at : (part : List ℕ) (at start size : ℕ) → take (at + start + size - (at + start)) (drop (at + start) part) ≡ take size (drop start (drop at part))
body_at part at start size = rw add-sub_cancel_left (simp drop-drop)

-- the rule is due or isn't
module _ (due : Bool) (part : List ℕ) (run parent base : ℕ) (table : List ℕ) where
  pub late-undue : due ≡ false → LateSays due part run parent base table (Ok tt)
  unfolding LateSays WaitsWhen late checked
  late-undue e = rw e (λ ws h. rw h)

  pub late_due : due ≡ true → (r : Result ⊤ Refusal) → LateSays true part run parent base table r → LateSays due part run parent base table r
  late_due e r h = rw e h

pub ruleset due_ways = (late-undue, late_due)

-- the scan
module _ (part : List ℕ) (run parent base : ℕ) (table : List ℕ) where
  pub late-start : Scans part run parent base table 0
  late-start = record { within = omega arith; reached = λ ws h. record { later = ws; there = h; same = refl } }

  module _ (at : ℕ) (inv : Scans part run parent base table at) where
    concluded : (r : Result ⊤ Refusal)
        → ((ws : List (ℕ × List ℕ)) → Reached parent base part run at (entries table) ws → late (entries table) ws ≡ checked r)
        → LateSays true part run parent base table r
    unfolding LateSays WaitsWhen
    concluded r f ws h = f ws (inv.reached ws h)

    pub late-end : run ≤ at → LateSays true part run parent base table (Ok tt)
    unfolding late checked
    late-end h = concluded (Ok tt) (λ ws q. q.same ∙ ap (late (entries table)) (at-stop parent base part run at q.later q.there h))

    module _ (h : at < run) (r : Optional Span) (e : r ≡ header_of (take (length part - at) (drop at part))) where
      here : r ≡ header_of (drop at part)
      here = rw (← part_to_end part at) e

      pub late-past : r ≡ None → LateSays true part run parent base table (Ok tt)
      late-past f = concluded (Ok tt) (λ ws q. absurd (omega (arith, in-front parent base part run at q.later q.there h, header-past (drop at part) r here f)))

      module _ (start size : ℕ) (f : r ≡ Some (span start size)) where
        fr : Framed (drop at part) start size
        fr = framed (drop at part) r start size here f

        nx : (ws : List (ℕ × List ℕ)) → Waits parent base part run at ws → Next parent base part run at ws start size
        nx ws q = next-at parent base part run at ws q h start size fr

        pub late-head : start ≤ length part - at
        late-head = let g : Framed (drop at part) start size = fr in omega (arith, length-drop at part)

        pub late-short : length part - at - start < size → LateSays true part run parent base table (Ok tt)
        late-short l = concluded (Ok tt) (λ ws q. let n : Next parent base part run at q.later start size = nx q.later q.there in absurd (omega arith))

        module _ (l : size ≤ length part - at - start) where
          pub late-from : base + length part ≤ 32_768 → Fits w64 (at + start)
          late-from b = omega (arith, late-head)

          pub late-to : base + length part ≤ 32_768 → Fits w64 (at + start + size)
          late-to b = omega (arith, late-head)

          pub late-in : at + start + size ≤ length part
          late-in = omega (arith, late-head, inv.within)

          pub late-less : run ≤ length part → length part - (at + start + size) < length part - at
          late-less z = omega (arith, late-head, fr, header-two (drop at part))

          module _ (b : Bool) (g : b ≡ (not (is_text (known parent (get_or part at 0))) || covered (entries table) (take (at + start + size - (at + start)) (drop (at + start) part)))) where
            tested : (not (is_text (known parent (get_or (drop at part) 0 0))) || covered (entries table) (take size (drop start (drop at part)))) ≡ b
            tested = rw (← tag_at part at, ← body_at part at start size) (sym g)

            stepped : (ws : List (ℕ × List ℕ)) (q : Reached parent base part run at (entries table) ws)
                → late (entries table) ws ≡ first (rule 12 (base + at) b ∷ late (entries table) (nx q.later q.there).later ∷ [])
            stepped ws q =
                q.same ∙ ap (late (entries table)) (nx q.later q.there).is
                ∙ late-waits (entries table) (known parent (get_or (drop at part) 0 0)) (base + at) (take size (drop start (drop at part))) (nx q.later q.there).later
                ∙ ap (λ (x : Bool). first (rule 12 (base + at) x ∷ late (entries table) (nx q.later q.there).later ∷ [])) tested

            pub late-found : b ≡ false → (x : Refusal) → x ≡ refusal 12 (base + at) → LateSays true part run parent base table (Err x)
            unfolding first rule checked
            late-found i x m = concluded (Err x) (λ ws q. stepped ws q ∙ rw (i, m))

            pub late-next : b ≡ true → Scans part run parent base table (at + start + size)
            unfolding first rule
            late-next i = record {
              within = late-in;
              reached = λ ws w. let q : Reached parent base part run at (entries table) ws = inv.reached ws w in
                  record {
                    later = (nx q.later q.there).later;
                    there = (nx q.later q.there).there;
                    same = stepped ws q ∙ rw i (first_one (late (entries table) (nx q.later q.there).later));
                  };
            }

pub ruleset late_ways = (late-start, late-end, late-past, late-head, late-short, late-from, late-to, late-in, late-less, late-found, late-next)
