-- The words of an accepted object in the order of its octets are those of its tree. Said by the grammar, constructor by constructor.
use mathlib.Core.Path.{◌≡◌, refl, sym, ap, subst, ◌∙◌}
use mathlib.Core.Bool.{true, false, cond, false≢true}
use mathlib.Core.Option.{Option, none, some}
use mathlib.Core.List.{List, [], ◌++◌, append_assoc}
use Prim.Native.Nat.{ℕ, ◌+◌}
use lib.ListN.{length}
use Rattle.octets.specs.Numbers.{Octets}
use Rattle.text.specs.Tokens.{Entries}
use Rattle.values.specs.declared.Kind.{Kind}
use Rattle.values.specs.declared.Kind.TheVariants.{HoldsItems, HoldsTokens, HoldsText, HoldsPlain}
use Rattle.values.specs.Table.{known, attribute}
use Rattle.values.proofs.Known.{attribute-kind, known-anywhere, known-cdata, known-four, known-six}
use Rattle.format.specs.Tree.{Items}
use Rattle.format.specs.Tree.Items.{end, item}
use Rattle.format.specs.Judge.{is_items, is_text, judge}
use Rattle.format.specs.Judge.Judged.{accepted}
use Rattle.format.proofs.Means.{value-no-items}
use Rattle.grammar.specs.Grammar.{header, Begins, Part, Inside}
use Rattle.grammar.specs.Grammar.Part.{attributes, table, language, elements, cdata, nothing}
use Rattle.grammar.specs.Grammar.Inside.{known_attribute, unknown_attribute, attributes_of_top, attributes_of_other, some_table, no_table, some_language, no_language, held_element, plain_element, unknown_element, no_element, some_cdata, no_cdata, filled}
use Rattle.grammar.proofs.Tags.{top-items}
use Rattle.grammar.proofs.Complete.{complete}
use Rattle.fold.specs.Words.{pieces, words_among, words_in}
use Rattle.fold.proofs.Bare.{behind}
use Rattle.packer.specs.Walking.{words_of, Flat}
use Rattle.packer.specs.Walking.Flat.{stop, enter, pass}

-- an item that begins octets begins them with more behind them
begins-more : {tag start : ℕ} {body rest o : List ℕ} (more : List ℕ) → Begins tag body rest o start → Begins tag body (rest ++ more) (o ++ more) start
begins-more {tag} {start} {body} {rest} {o} more b = record {
  form = b.form;
  says = b.says;
  octets = ap (λ q. q ++ more) b.octets ∙ (append_assoc (header b.form tag (length body)) (body ++ rest) more ∙ ap (λ q. header b.form tag (length body) ++ q) (append_assoc body rest more));
  begins = b.begins;
}

-- what comes in an element, with anything behind it that may be met in any element
record Spreads (p : Part) (e : ℕ) (o : List ℕ) (u : Items) : Type 0 where
  run : (rest : List ℕ) (ws : List (List ℕ)) → ((q : ℕ) → Flat q rest ws) → (q : ℕ) → (behind p ≡ false → q ≡ e) → Flat q (o ++ rest) (words_in e u ++ ws)

-- the words of a leaf and of what comes after it
leaf-words : (e tag at : ℕ) (body : List ℕ) (k : Option Kind) (u : Items) (ws : List (List ℕ)) → known e tag ≡ k → words_in e (item tag at body end u) ++ ws ≡ words_of k body ++ (words_in e u ++ ws)
unfolding words_in words_of
leaf-words e tag at body k u ws x = rw x (append_assoc (cond (is_text k) (words_among (pieces [] body)) []) (words_in e u) ws)

by-leaf : (p p' : Part) (e tag at start : ℕ) (body later o : List ℕ) (k : Option Kind) (u : Items) → Begins tag body later o start → known e tag ≡ k → is_items k ≡ false
    → ((q : ℕ) → (behind p ≡ false → q ≡ e) → (known q tag ≡ k) × (behind p' ≡ false → q ≡ e)) → Spreads p' e later u → Spreads p e o (item tag at body end u)
by-leaf p p' e tag at start body later o k u b x l same r = record {
  run = λ rest ws f q w.
      let s = same q w in
      pass (begins-more rest b) (ap is_items s.0 ∙ l) (r.run rest ws f q s.1) (leaf-words e tag at body k u ws x ∙ ap (λ y. words_of y body ++ (words_in e u ++ ws)) (sym s.0));
}

-- an unknown item has no words
by-unknown : (p : Part) (e tag start : ℕ) (body later o : List ℕ) (u : Items) → Begins tag body later o start
    → ((q : ℕ) → (behind p ≡ false → q ≡ e) → known q tag ≡ none) → Spreads p e later u → Spreads p e o u
unfolding words_of is_text is_items
by-unknown p e tag start body later o u b same r = record {
  run = λ rest ws f q w. pass (begins-more rest b) (ap is_items (same q w)) (r.run rest ws f q w) (ap (λ y. words_of y body ++ (words_in e u ++ ws)) (sym (same q w)));
}

by-held : (e tag at start : ℕ) (body later o : List ℕ) (s u : Items) → Begins tag body later o start → attribute tag ≡ false → known 0 tag ≡ some HoldsItems
    → Spreads attributes tag body s → Spreads elements e later u → Spreads elements e o (item tag at body s u)
unfolding words_in is_items is_text
by-held e tag at start body later o s u b a x inside after = record {
  run = λ rest ws f q w.
      let k : known q tag ≡ some HoldsItems = known-anywhere q tag a ∙ x in
      let k' : known e tag ≡ some HoldsItems = known-anywhere e tag a ∙ x in
      let i = inside.run (later ++ rest) (words_in e u ++ ws) (λ q. after.run rest ws f q (λ z. absurd (false≢true (sym z)))) tag (λ z. refl) in
      let z : words_in tag s ++ (words_in e u ++ ws) ≡ words_in e (item tag at body s u) ++ ws = rw k' (sym (append_assoc (words_in tag s) (words_in e u) ws)) in
      enter (begins-more rest b) (ap is_items k) (subst (λ y. Flat tag (body ++ (later ++ rest)) y) z i);
}

by_end : (e : ℕ) (o : List ℕ) (u : Items) → o ≡ [] → u ≡ end → Spreads nothing e o u
unfolding words_in
by_end e o u x y = record { run = λ rest ws f q w. rw (x, y) (f q) }

later-part : {p p' : Part} {e : ℕ} {o : List ℕ} {u : Items} → ((q : ℕ) → (behind p ≡ false → q ≡ e) → behind p' ≡ false → q ≡ e) → Spreads p' e o u → Spreads p e o u
later-part g r = record { run = λ rest ws f q w. r.run rest ws f q (g q w) }

never-behind : {A : Type 0} → true ≡ false → A
never-behind z = absurd (false≢true (sym z))

spreads : {T : Entries} {p : Part} {e d at : ℕ} {o : List ℕ} {u : Items} → Inside T p e d at o u → Spreads p e o u
unfolding is_items attribute
spreads {e = e} (known_attribute {at = at} {start = start} {tag = tag} {body = body} {rest = rest} {o = o} {k = k} {u = u} b a x v n i) =
    by-leaf attributes attributes e tag (at + start) start body rest o (some k) u b x (value-no-items k (attribute-kind e tag k a x)) (λ q w. (ap (λ y. known y tag) (w refl) ∙ x, w)) (spreads i)
spreads {e = e} (unknown_attribute {start = start} {tag = tag} {body = body} {rest = rest} {o = o} {u = u} b a x i) =
    by-unknown attributes e tag start body rest o u b (λ q w. ap (λ y. known y tag) (w refl) ∙ x) (spreads i)
spreads (attributes_of_top t i) = later-part (λ q w z. w refl) (spreads i)
spreads (attributes_of_other t i) = later-part (λ q w z. never-behind z) (spreads i)
spreads {e = e} (some_table {at = at} {start = start} {body = body} {rest = rest} {o = o} {u = u} b x y i) =
    by-leaf table language e 4 (at + start) start body rest o (some HoldsTokens) u b (known-anywhere e 4 refl ∙ known-four) refl (λ q w. (known-anywhere q 4 refl ∙ known-four, never-behind)) (spreads i)
spreads (no_table x i) = later-part (λ q w z. never-behind z) (spreads i)
spreads {e = e} (some_language {at = at} {start = start} {body = body} {rest = rest} {o = o} {u = u} b x i) =
    by-leaf language elements e 6 (at + start) start body rest o (some HoldsText) u b (known-anywhere e 6 refl ∙ known-six) refl (λ q w. (known-anywhere q 6 refl ∙ known-six, never-behind)) (spreads i)
spreads (no_language i) = later-part (λ q w z. never-behind z) (spreads i)
spreads {e = e} (held_element {at = at} {start = start} {tag = tag} {body = body} {rest = rest} {o = o} {s = s} {u = u} b c l x i j) =
    by-held e tag (at + start) start body rest o s u b c.element x (spreads i) (spreads j)
spreads {e = e} (plain_element {at = at} {start = start} {tag = tag} {body = body} {rest = rest} {o = o} {u = u} b c l x i) =
    by-leaf elements elements e tag (at + start) start body rest o (some HoldsPlain) u b (known-anywhere e tag c.element ∙ x) refl (λ q w. (known-anywhere q tag c.element ∙ x, never-behind)) (spreads i)
spreads {e = e} (unknown_element {start = start} {tag = tag} {body = body} {rest = rest} {o = o} {u = u} b c l x i) =
    by-unknown elements e tag start body rest o u b (λ q w. known-anywhere q tag c.element ∙ x) (spreads i)
spreads (no_element i) = later-part (λ q w z. never-behind z) (spreads i)
spreads {e = e} (some_cdata {at = at} {start = start} {body = body} {rest = rest} {o = o} {u = u} b x l i) =
    by-leaf cdata nothing e 1 (at + start) start body rest o (some HoldsText) u b (known-cdata e) refl (λ q w. (known-cdata q, never-behind)) (spreads i)
spreads (no_cdata i) = later-part (λ q w z. never-behind z) (spreads i)
spreads {e = e} (filled {o = o} {u = u} x y) = by_end e o u x y

-- the words of an accepted object, one behind the other
pub flat-words : (o : List ℕ) (t : Items) → Octets o → judge o ≡ accepted t → Flat 0 o (words_in 0 t)
unfolding words_in is_items is_text
flat-words o t os h =
    let a = complete o t os h in
    let x = top-items a.tag a.top in
    let f = (spreads a.holds).run [] [] (λ q. stop refl refl) a.tag (λ z. refl) in
    let w : words_in a.tag a.inside ++ [] ≡ words_in 0 t = sym (ap (words_in 0) a.tree ∙ rw x) in
    enter a.whole (ap is_items x) (subst (λ y. Flat a.tag (a.body ++ []) y) w f)
