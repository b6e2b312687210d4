-- Each name of a program of the first path means a variable of the main procedure, which is all of it.
use Rattle.std.proofs.Common.{◌≡◌, ◌⊎◌, inl, inr, ℕ, suc, ◌+◌, ◌<◌, List, [], ◌∷◌, map, length, Bool, true, false, Some, refl, sym, ap, ◌∙◌, subst, arith, true≢false, unwrap_or}
use Rattle.std.specs.Prelude.{◌==◌, ◌&&◌, nat_lt, if◌then◌else◌, slice_get, Contains}
use Rattle.std.proofs.lemmas.Bool.Decides.{nat_tests}
use Rattle.std.proofs.lemmas.List.Elements.{Contains-append_cases, Contains-push_cases}
use Rattle.pli_language.specs.declared.expr.Place.{Place}
use Rattle.pli_language.specs.declared.scope.Found.TheVariants as F
use Rattle.pli_language.specs.Keywords.{same_bytes}
use Rattle.pli_language.specs.Tree as T
use Rattle.pli_language.specs.Declaring.{same_place}
use Rattle.pli_language.specs.Declarations.{Block, Held, variable_declared, outermost}
use Rattle.pli_language.specs.Means.{is_full_match, is_match, places, chosen, or_else, means_from, names_mean}
use Rattle.pli_typing.specs.TypedTree as Y
use Rattle.pli_typing.specs.Converting.{Designated}
use Rattle.pli_typing.specs.Variables.{variables_in, members_first, index_where, begins_at, part_of, part_from, leaves_of, with_members, from_place, is_structure}
use Rattle.pli_typing.specs.Calls.{part_designated}
use Rattle.pli_headline.specs.FirstPathTrees.{Names, main_head}
use Rattle.pli_headline.proofs.FirstPathDeclared.{Named, plain_held, letters_of, declarations_among}

-- ---- the two blocks

abbrev pub main_block : T.Name → Place → List Named → Block
main_block label place ns =
    record { around = 1 ∷ 0 ∷ []; head = Some (main_head label place); declarations = declarations_among ns }

abbrev pub main_blocks : T.Name → Place → List Named → List Block
main_blocks label place ns = outermost ∷ main_block label place ns ∷ []

-- ---- which declaration a name means

abbrev pub Among : Named → List Named → Type 0
Among n [] = ⊥
Among n (m ∷ ms) = (n ≡ m) ⊎ Among n ms

same_word : (word : List ℕ) → same_bytes word word ≡ true
same_word [] = refl
same_word (x ∷ xs) =
    let e : (x == x) ≡ true = grind (arith, nat_tests) in ap (λ t. t && same_bytes xs xs) e ∙ same_word xs

none_among : (word : List ℕ) → Contains [] word → ⊥
none_among word h = let below : h.0 < 0 = h.1 in omega arith

-- the first of the names, or one behind it
among_cases : (name word : List ℕ) (names : Names) → Contains (name ∷ names) word → (name ≡ word) ⊎ Contains names word
among_cases name word names h = elim (Contains-append_cases (name ∷ []) names word h) [ inl one ↦ inl (alone one) | inr more ↦ inr more ]
  where
    alone : Contains (name ∷ []) word → name ≡ word
    alone one = elim (Contains-push_cases [] name word one) [ inl none ↦ absurd (none_among word none) | inr same ↦ same ]

-- the first place among these from a number on where a name stands
record Meant (word : List ℕ) (from : ℕ) (ns : List Named) : Type 0 where
  named : Named
  among : Among named ns
  index : ℕ
  others : List ℕ
  places_are : places (is_full_match [] word) from (declarations_among ns) ≡ (from + index) ∷ others
  stands : slice_get (declarations_among ns) index ≡ Some (variable_declared (plain_held named))

meant_first : (word : List ℕ) (from : ℕ) (n : Named) (ns : List Named) → same_bytes word n.0.letters ≡ true → Meant word from (n ∷ ns)
meant_first word from n ns e =
    let others = places (is_full_match [] word) (from + 1) (declarations_among ns) in
    record {
      named = n;
      among = inl refl;
      index = 0;
      others = others;
      places_are = ap (λ t. if t && true then from ∷ others else others) e ∙ ap (λ k. k ∷ others) (omega arith);
      stands = refl;
    }

meant_later : (word : List ℕ) (from : ℕ) (n : Named) (ns : List Named) → same_bytes word n.0.letters ≡ false → Meant word (from + 1) ns → Meant word from (n ∷ ns)
meant_later word from n ns e m =
    let others = places (is_full_match [] word) (from + 1) (declarations_among ns) in
    record {
      named = m.named;
      among = inr m.among;
      index = suc m.index;
      others = m.others;
      places_are = ap (λ t. if t && true then from ∷ others else others) e ∙ m.places_are ∙ ap (λ k. k ∷ m.others) (omega arith);
      stands = m.stands;
    }

meant_next : (word : List ℕ) (from : ℕ) (n : Named) (ns : List Named) → (n.0.letters ≡ word) ⊎ Contains (letters_of ns) word → (Contains (letters_of ns) word → Meant word (from + 1) ns) → (t : Bool) → same_bytes word n.0.letters ≡ t → Meant word from (n ∷ ns)
meant_next word from n ns h later true e = meant_first word from n ns e
meant_next word from n ns (inl same) later false e =
    absurd (true≢false (sym (subst (λ w. same_bytes w n.0.letters ≡ true) same (same_word n.0.letters)) ∙ e))
meant_next word from n ns (inr more) later false e = meant_later word from n ns e (later more)

meant : (word : List ℕ) (from : ℕ) (ns : List Named) → Contains (letters_of ns) word → Meant word from ns
meant word from [] h = absurd (none_among word h)
meant word from (n ∷ ns) h =
    meant_next word from n ns (among_cases n.0.letters word (letters_of ns) h) (λ more. meant word (from + 1) ns more) (same_bytes word n.0.letters) refl

-- a declared name means a variable of the main procedure
pub record Means (label : T.Name) (place : Place) (ns : List Named) (word : List ℕ) : Type 0 where
  pub named : Named
  pub among : Among named ns
  pub index : ℕ
  pub means_it : names_mean (main_blocks label place ns) 1 (word ∷ []) ≡ F.One (record { block = 1; index = index })
  pub stands : slice_get (declarations_among ns) index ≡ Some (variable_declared (plain_held named))

pub name_means : (label : T.Name) (place : Place) (ns : List Named) (word : List ℕ) → Contains (letters_of ns) word → Means label place ns word
unfolding means_from
name_means label place ns word h =
    let m = meant word 0 ns h in
    record {
      named = m.named;
      among = m.among;
      index = m.index;
      means_it =
          ap (λ ks. or_else (chosen 1 ks (places (is_match [] word) 0 (declarations_among ns))) F.None) m.places_are
          ∙ ap (λ i. F.One (record { block = 1; index = i })) (omega arith);
      stands = m.stands;
    }

-- ---- the place of a variable among those of its block

abbrev pub groups_among : List Named → List (List Held)
groups_among ns = map (λ n. plain_held n ∷ []) ns

no_members : (ns : List Named) → members_first (declarations_among ns) ≡ []
no_members [] = refl
no_members (n ∷ ns) = refl

pub groups_in : (ns : List Named) → variables_in (declarations_among ns) ≡ groups_among ns
groups_in [] = refl
groups_in (n ∷ ns) =
    ap (λ ms. (plain_held n ∷ ms) ∷ variables_in (declarations_among ns)) (no_members ns)
    ∙ ap (λ gs. (plain_held n ∷ []) ∷ gs) (groups_in ns)

same_self : (p : Place) → same_place p p ≡ true
same_self p =
    let a : (p.line == p.line) ≡ true = grind (arith, nat_tests) in
    let b : (p.column == p.column) ≡ true = grind (arith, nat_tests) in
    ap (λ t. t && (p.column == p.column)) a ∙ b

-- the first variable at a place
pub record FirstAt (p : Place) (ns : List Named) : Type 0 where
  pub named : Named
  pub index : ℕ
  pub inside : index < length ns
  pub at_place : same_place p named.0.place ≡ true
  pub first_at : index_where (begins_at p) (groups_among ns) ≡ index
  pub stands : slice_get (groups_among ns) index ≡ Some (plain_held named ∷ [])

found_next : (n m : Named) (ms : List Named) → Among n (m ∷ ms) → (Among n ms → FirstAt n.0.place ms) → (t : Bool) → same_place n.0.place m.0.place ≡ t → FirstAt n.0.place (m ∷ ms)
found_next n m ms h later true e =
    record {
      named = m;
      index = 0;
      inside = omega arith;
      at_place = e;
      first_at = ap (λ t. if t then 0 else index_where (begins_at n.0.place) (groups_among ms) + 1) e;
      stands = refl;
    }
found_next n m ms (inl same) later false e =
    absurd (true≢false (sym (subst (λ (k : Named). same_place n.0.place k.0.place ≡ true) same (same_self n.0.place)) ∙ e))
found_next n m ms (inr h) later false e =
    let f = later h in
    record {
      named = f.named;
      index = suc f.index;
      inside = let i = f.inside in omega (arith, i);
      at_place = f.at_place;
      first_at = ap (λ t. if t then 0 else index_where (begins_at n.0.place) (groups_among ms) + 1) e ∙ ap (λ i. i + 1) f.first_at ∙ omega arith;
      stands = f.stands;
    }

pub found : (n : Named) (ns : List Named) → Among n ns → FirstAt n.0.place ns
found n [] h = absurd h
found n (m ∷ ms) h = found_next n m ms h (λ k. found n ms k) (same_place n.0.place m.0.place) refl

-- ---- the part that it designates

abbrev pub number_at : ℕ → Y.Reference
number_at j =
    Y.Referring (record { class = Y.AutomaticClass; block = 1; level = 0; index = j }) Y.NotLocated (record { first = 0; count = 1 }) Y.NoNumber

-- a variable alone, all of it
abbrev pub whole_number : ℕ → Designated
whole_number j =
    record {
      reference = number_at j;
      leaves = record { type = Y.FixedLeaf 31; bounds = []; initial = [] } ∷ [];
      dimensions = 0;
      has_members = false;
      is_whole = true;
    }

pub record Whole (label : T.Name) (place : Place) (ns : List Named) (n : Named) : Type 0 where
  pub index : ℕ
  pub inside : index < length ns
  pub designated : part_designated (main_blocks label place ns) 1 (plain_held n) Y.NotLocated false Y.NoNumber ≡ whole_number index

-- with these members of the variable, which is the ith of its block
abbrev part_at : T.Name → Place → List Named → Named → ℕ → List Held → Designated
part_at label place ns n i all =
    record {
      reference = Y.Referring (record { class = Y.AutomaticClass; block = 1; level = 0; index = i }) Y.NotLocated (part_of all (plain_held n)) Y.NoNumber;
      leaves = leaves_of (main_blocks label place ns) 1 all (with_members (from_place n.0.place all));
      dimensions = 0;
      has_members = is_structure all (plain_held n);
      is_whole = true;
    }

-- with these variables in its block
abbrev part_in : T.Name → Place → List Named → Named → List (List Held) → Designated
part_in label place ns n vs =
    part_at label place ns n (index_where (begins_at n.0.place) vs) (unwrap_or (slice_get vs (index_where (begins_at n.0.place) vs)) [])

-- where one stands alone at its place
abbrev part_alone : T.Name → Place → List Named → Named → ℕ → Bool → Designated
part_alone label place ns m j t =
    let from : List Held = if t then plain_held m ∷ [] else [] in
    record {
      reference = Y.Referring (record { class = Y.AutomaticClass; block = 1; level = 0; index = j }) Y.NotLocated (part_from (plain_held m ∷ []) from) Y.NoNumber;
      leaves = leaves_of (main_blocks label place ns) 1 (plain_held m ∷ []) (with_members from);
      dimensions = 0;
      has_members = nat_lt 1 (length (with_members from));
      is_whole = true;
    }

designated_in : (label : T.Name) (place : Place) (ns : List Named) (n : Named) → part_designated (main_blocks label place ns) 1 (plain_held n) Y.NotLocated false Y.NoNumber ≡ part_in label place ns n (variables_in (declarations_among ns))
designated_in label place ns n = refl

designated_alone : (label : T.Name) (place : Place) (ns : List Named) (n m : Named) (j : ℕ) → same_place n.0.place m.0.place ≡ true → part_at label place ns n j (plain_held m ∷ []) ≡ whole_number j
designated_alone label place ns n m j e = ap (λ t. part_alone label place ns m j t) e

pub whole : (label : T.Name) (place : Place) (ns : List Named) (n : Named) → Among n ns → Whole label place ns n
whole label place ns n h =
    let f = found n ns h in
    record {
      index = f.index;
      inside = f.inside;
      designated =
          designated_in label place ns n
          ∙ ap (λ vs. part_in label place ns n vs) (groups_in ns)
          ∙ ap (λ i. part_at label place ns n i (unwrap_or (slice_get (groups_among ns) i) [])) f.first_at
          ∙ ap (λ o. part_at label place ns n f.index (unwrap_or o [])) f.stands
          ∙ designated_alone label place ns n f.named f.index f.at_place;
    }
