-- Two elements of one tag with two bodies, each under the entries of its own token table: whether they mean the same (document 01, Records and meaning). Told
-- of all octets; that it says so of accepted bodies is proved (proofs/Comparing, element-says).
use Rattle.std.specs.Prelude.{◌≡◌, Bool, true, false, cond, ◌&&◌, List, [], ◌∷◌, ℕ, zero, suc, eqb, Some, None, Option as Optional}
use Rattle.std.proofs.Math.Option.{Option, none, some}
use Rattle.octets.specs.Places.{between}
use Rattle.octets.specs.declared.Lies.{Lies}
use Rattle.text.specs.Tokens.{Entries, expanded}
use Rattle.values.specs.declared.Kind.{Kind}
use Rattle.values.specs.Table.{known}
use Rattle.values.specs.Calls.{default_octets}
use Rattle.format.specs.Tree.{Items}
use Rattle.format.specs.Judge.{is_items, is_text, judge}
use Rattle.format.specs.Judge.Judged.{accepted}
use Rattle.format.specs.Meaning.{opens, leaf_octets, meaning_of}
use Rattle.format.specs.Same.{same_octets, same_maybe, same_meaning}
use Rattle.survey.specs.Places.{span_of_tag, body_of_tag}
use Rattle.compare.specs.declared.items.Content.{Content}
use Rattle.compare.specs.declared.items.Content.TheVariants.{Items as InItems, Text as InText, Octets as InOctets}
use Rattle.compare.specs.Bodies.{same_body}
use Rattle.compare.specs.Walks.{children_in}

-- the body of an attribute of an element counts unless it is its default: that means the same as none (change request 2026-05)
unfoldable pub counted_body : (parent tag : ℕ) → Option (List ℕ) → Option (List ℕ)
counted_body parent tag none = none
counted_body parent tag (some o) = cond (default_octets parent tag o) none (some o)

-- the body that counts under a tag, in an element
unfoldable pub counted_of_tag : (parent tag : ℕ) → List ℕ → Option (List ℕ)
counted_of_tag parent tag part = counted_body parent tag (body_of_tag tag part)

-- the bodies under one tag in two elements: both absent, or both present and of one meaning by the kind that the tag has there; one that isn't known says
-- nothing
unfoldable pub same_found : Entries → Entries → Option Kind → Option (List ℕ) → Option (List ℕ) → Bool
same_found es fs none a b = true
same_found es fs (some k) a b = same_maybe (same_body es fs k) a b

-- the attributes of as many tags as the first number says, from a tag on
unfoldable pub same_from : (many tag parent : ℕ) → Entries → List ℕ → Entries → List ℕ → Bool
same_from zero tag parent es a fs b = true
same_from (suc n) tag parent es a fs b = same_found es fs (known parent tag) (counted_of_tag parent tag a) (counted_of_tag parent tag b) && same_from n (suc tag) parent es a fs b

-- all attributes of two elements of a tag, as sets: where each stands says nothing
unfoldable pub same_sets : (parent : ℕ) → Entries → List ℕ → Entries → List ℕ → Bool
same_sets parent es a fs b = same_from 128 0x80 parent es a fs b

-- both absent, or texts that expand to the same octets
unfoldable pub same_text : Entries → Entries → Option (List ℕ) → Option (List ℕ) → Bool
same_text es fs a b = same_maybe (λ x y. same_octets (expanded es x) (expanded fs y)) a b

-- elements in order, by a test of two of one tag
unfoldable pub same_each : (ℕ → List ℕ → List ℕ → Bool) → List (ℕ × List ℕ) → List (ℕ × List ℕ) → Bool
same_each f [] [] = true
same_each f [] (y ∷ ys) = false
same_each f (x ∷ xs) [] = false
same_each f (x ∷ xs) (y ∷ ys) = eqb x.0 y.0 && f x.0 x.1 y.1 && same_each f xs ys

-- two elements of a tag: the same attributes, CDATA and child elements, as deep as so many levels of elements; or, where it holds no items, the same octets,
-- expanded where they are text
unfoldable pub same_element : (levels : ℕ) → Entries → Entries → (tag : ℕ) → List ℕ → List ℕ → Bool
same_element zero es fs tag a b = cond (opens tag) false (same_octets (leaf_octets es tag a) (leaf_octets fs tag b))
same_element (suc n) es fs tag a b =
    let children = same_each (same_element n es fs) (children_in a) (children_in b) in
    let held = same_sets tag es a fs b && same_text es fs (body_of_tag 1 a) (body_of_tag 1 b) && children in
    cond (opens tag) held (same_octets (leaf_octets es tag a) (leaf_octets fs tag b))

-- the child elements in two bodies
unfoldable pub same_children : (levels : ℕ) → Entries → List ℕ → Entries → List ℕ → Bool
same_children levels es a fs b = same_each (same_element levels es fs) (children_in a) (children_in b)

-- ---- what single functions tell; no claim of a call names these

-- where the body that counts under a tag lies
unfoldable pub counted_lies : (parent tag : ℕ) → List ℕ → Optional Lies → Optional Lies
counted_lies parent tag part None = None
counted_lies parent tag part (Some lies) = cond (default_octets parent tag (between part lies.from lies.to)) None (Some lies)

unfoldable pub counted_span : (parent tag : ℕ) → List ℕ → Optional Lies
counted_span parent tag part = counted_lies parent tag part (span_of_tag tag part)

-- what an element's body is
unfoldable pub content_of : Option Kind → Content
content_of k = cond (is_items k) InItems (cond (is_text k) InText InOctets)

-- two objects that are accepted
unfoldable pub Compared : List ℕ → List ℕ → Bool → Type 0
Compared a b r = (t u : Items) → judge a ≡ accepted t → judge b ≡ accepted u → r ≡ same_meaning (meaning_of t) (meaning_of u)
