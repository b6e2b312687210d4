-- A block in which the variables of the main procedure alone can be named: those of the blocks in it are put aside, and what they hold
-- stands in memory as it is.
use Rattle.std.proofs.Common.{◌≡◌, ℕ, suc, ◌+◌, ◌*◌, ◌<◌, ◌≤◌, ◌⊎◌, inl, inr, List, [], ◌∷◌, ◌++◌, length, Some, Bool, true, false, refl, sym, ap, ◌∙◌, subst, arith}
use Rattle.std.specs.Prelude.{ℤ, pos, cond, nat_lt, slice_get, ◌==◌}
use Rattle.std.proofs.lemmas.Bool.{le-ltb, lt-ltb, eqb-true}
use Rattle.rv_meaning.specs.Words.{word}
use Rattle.rv_meaning.specs.Memory.{load, store}
use Rattle.rv_meaning.specs.Machine.{memory_size, load_width, extended, store_width}
use Rattle.pli_typing.specs.Signatures.{Bounds}
use Rattle.pli_typing.specs.TypedTree as Y
use Rattle.pli_meaning.specs.BasicValues.{BasicText}
use Rattle.pli_meaning.specs.Control.{Label}
use Rattle.pli_meaning.specs.DeclaredShapes.{variables_of_block}
use Rattle.pli_serving.specs.Bytes.{with_bytes}
use Rattle.pli_serving.specs.Stored.{kept_bytes}
use Rattle.pli_coding.specs.Environments.{Environment}
use Rattle.pli_coding.specs.Frames.{automatic_place, frame_end}
use Rattle.pli_headline.specs.ProvedSoFar.{Names, Spot, Kind, Types, OuterBlock, alone, declared_kind, names_with, names_from, names_in, types_in}
use Rattle.run_steps.specs.Engine.{Base}
use Rattle.pli_headline.proofs.Scalars.{Values, Fits, load_kind, store_kind, place_below}
use Rattle.run_steps.specs.Bodies.{Ground, PlaceFrom}
use Rattle.run_steps.specs.Reaching.{Reaches}
use Rattle.pli_headline.proofs.Variables.{AllOutermost, data_place, level_of}
use Rattle.pli_headline.proofs.DeclaredNames.{by_last, kind_around, chosen_before, chosen_here}
use Rattle.pli_headline.proofs.States.{with_number_at, with_text_at}
use Rattle.pli_headline.proofs.TextPlaces.{TextThere, text_kind_of}
use Rattle.pli_headline.proofs.TextsKept.{text_kept_as}
use Rattle.pli_headline.proofs.TextScopes.{IsTextAt}
use Rattle.pli_headline.proofs.ElementsStay.{with_element_at}
use Rattle.pli_headline.proofs.NamesStand.{NameThere}
use Rattle.pli_headline.proofs.ArrayNames.{ArrayNamed, place_of_name}
use Rattle.pli_headline.proofs.ArrayScopes.{IsArrayAt, ArrayOn, with_element_of}
use Rattle.pli_headline.proofs.TextArraysStay.{text_stride, with_text_in}
use Rattle.pli_headline.proofs.TextArrayScopes.{IsTextArrayAt, TextArrayOn, with_text_of}
use Rattle.pli_headline.proofs.OuterBlocks.{Rises}
use Rattle.pli_headline.proofs.Asides.{Aside}
use Rattle.pli_headline.proofs.Entered.{put_aside}
use Rattle.pli_headline.proofs.Storages.{Serials}
use Rattle.pli_headline.proofs.Statements.{Block, SameValues, Restricts, AllSeen, Enclosing, Enclosures}
use Rattle.pli_headline.proofs.MainOutlets.{MainAround, HasMain, main_of}

-- ---- the variables

-- the main procedure's are the first of a block's, and the others are those of blocks in it
pub record Narrows (outer : Names) (outers : Types) (block : Names) (types : Types) : Type 0 where
  pub program : outer.program ≡ block.program
  pub fewer : length outers ≤ length types
  pub among : (j : ℕ) {kind : Kind} → slice_get outers j ≡ Some kind → slice_get types j ≡ Some kind
  pub spots : (j : ℕ) {kind : Kind} → slice_get outers j ≡ Some kind → outer.at j ≡ block.at j
  pub lowest : (j : ℕ) {kind : Kind} → slice_get outers j ≡ Some kind → level_of outer j ≡ 0
  pub others : (j : ℕ) {kind : Kind} → slice_get types j ≡ Some kind → (slice_get outers j ≡ Some kind) ⊎ ((length outers ≤ j) × (0 < level_of block j))

pub narrows_self : (outer : Names) (outers : Types) → AllOutermost outer outers → Narrows outer outers outer outers
narrows_self outer outers lowest =
    record { program = refl; fewer = omega arith; among = λ j at. at; spots = λ j at. refl; lowest = λ j at. lowest j _ at; others = λ j at. inl at }

-- with one more, of a block in the main procedure
narrows_more : {outer : Names} {outers : Types} {block : Names} {types : Types} (kind : Kind) (spot : Spot) → 0 < spot.level → Narrows outer outers block types → Narrows outer outers (names_with block (length types) spot) (types ++ (kind ∷ []))
narrows_more {outer} {outers} {block} {types} kind spot deep b =
    let count = length types in
    let fewer = b.fewer in
    let names = names_with block count spot in
    let before : (j : ℕ) → j < count → names.at j ≡ block.at j = λ j below. chosen_before count j (block.at j) spot below in
    record {
      program = b.program;
      fewer = let more = longer types kind in omega (arith, fewer, more);
      among = λ j at. kind_around types (kind ∷ []) j (b.among j at);
      spots = λ j at. b.spots j at ∙ sym (before j (place_below types j _ (b.among j at)));
      lowest = λ j at. b.lowest j at;
      others = λ j at.
          by_last types kind (λ i kind'. (slice_get outers i ≡ Some kind') ⊎ ((length outers ≤ i) × (0 < level_of names i)))
          (λ i kind' below at'. still (ap (λ (u : Spot). u.level) (before i below)) (b.others i at'))
          (inr (fewer, let l = ap (λ (u : Spot). u.level) (chosen_here count (block.at count) spot) in omega (arith, l, deep)))
          j _ at;
    }
  where
    longer : (ts : Types) (k : Kind) → length ts ≤ length (ts ++ (k ∷ []))
    longer [] k = omega arith
    longer (t ∷ ts) k = let h = longer ts k in omega (arith, h)

    still : {A : Type 0} {x y i count : ℕ} → x ≡ y → A ⊎ ((count ≤ i) × (0 < y)) → A ⊎ ((count ≤ i) × (0 < x))
    still e (inl h) = inl h
    still e (inr h) = let low = h.1 in inr (h.0, omega (arith, e, low))

narrows_from : {outer : Names} {outers : Types} {block : Names} {types : Types} (number level index : ℕ) (ds : List Y.DeclaredVariable) → 0 < level → Narrows outer outers block types → Narrows outer outers (names_from block types number level index ds) (types_in types ds)
narrows_from number level index [] deep b = b
narrows_from {block = block} {types = types} number level index (d ∷ ds) deep b =
    narrows_from {block = names_with block (length types) (record { number = number; level = level; index = index })} {types = types ++ (declared_kind d ∷ [])} number level (suc index) ds deep (narrows_more (declared_kind d) (record { number = number; level = level; index = index }) deep b)

-- with those of a block in the main procedure
pub narrows_in : {outer : Names} {outers : Types} {block : Names} {types : Types} (head : Y.BlockHead) (ds : List Y.DeclaredVariable) → 0 < head.level → Narrows outer outers block types → Narrows outer outers (names_in block types head ds) (types_in types ds)
narrows_in head ds deep b = narrows_from head.number head.level 0 ds deep b

-- variables of the main procedure that are the first of a block's are the first of its own
pub narrows_seen : {outer : Names} {outers : Types} {block : Names} {types : Types} {serials serials' : Serials} {names : Names} {kinds : Types} → Narrows outer outers block types → Restricts serials block types serials' names kinds → ((j : ℕ) (kind : Kind) → slice_get kinds j ≡ Some kind → level_of names j ≤ 0) → Restricts serials outer outers serials' names kinds
narrows_seen {outer} {outers} {block} {names = names} {kinds} b r low =
    let mine : (j : ℕ) (kind : Kind) → slice_get kinds j ≡ Some kind → slice_get outers j ≡ Some kind = λ j kind at.
    first_of (b.others j (r.among j at)) (let l = low j kind at in let e = ap (λ (u : Spot). u.level) (r.spots j at) in omega (arith, l, e)) in
    record {
      program = r.program ∙ sym b.program;
      among = λ j at. mine j _ at;
      spots = λ j at. r.spots j at ∙ sym (b.spots j (mine j _ at));
      of = λ j at. r.of j at;
      owner = λ j at. r.owner j at;
      first = r.first;
    }
  where
    first_of : {A : Type 0} {count j level : ℕ} → A ⊎ ((count ≤ j) × (0 < level)) → level ≤ 0 → A
    first_of (inl h) low = h
    first_of (inr h) low = let high = h.1 in absurd (omega (arith, high, low))

-- ---- what they hold

-- the first as many hold these values, and the others those
abbrev pub beside : (count : ℕ) → Values → Values → Values
beside count n n0 =
    record {
      numbers = λ j. cond (nat_lt j count) (n.numbers j) (n0.numbers j);
      texts = λ j. cond (nat_lt j count) (n.texts j) (n0.texts j);
      arrays = λ j. cond (nat_lt j count) (n.arrays j) (n0.arrays j);
      text_arrays = λ j. cond (nat_lt j count) (n.text_arrays j) (n0.text_arrays j);
    }

pub chosen_behind : {A : Type 0} (count j : ℕ) (x y : A) → count ≤ j → cond (nat_lt j count) x y ≡ y
chosen_behind count j x y h = ap (λ q. cond q x y) (le-ltb j count h)

pub beside_self : (types : Types) (count : ℕ) (n : Values) → SameValues types n (beside count n n)
beside_self types count n j kind at =
    (same (nat_lt j count) (n.numbers j), (same (nat_lt j count) (n.texts j), (same (nat_lt j count) (n.arrays j), same (nat_lt j count) (n.text_arrays j))))
  where
    same : {A : Type 0} (q : Bool) (x : A) → x ≡ cond q x x
    same true x = refl
    same false x = refl

-- those that are the same among the first are the same beside others
pub beside_same : {outer : Names} {outers : Types} {block : Names} {types : Types} → Narrows outer outers block types → (n n' n0 : Values) → SameValues outers n n' → SameValues types (beside (length outers) n n0) (beside (length outers) n' n0)
beside_same {outers = outers} {block = block} b n n' n0 same j kind at = by_place (b.others j at)
  where
    by_place : (slice_get outers j ≡ Some kind) ⊎ ((length outers ≤ j) × (0 < level_of block j)) → ((beside (length outers) n n0).numbers j ≡ (beside (length outers) n' n0).numbers j) × (((beside (length outers) n n0).texts j ≡ (beside (length outers) n' n0).texts j) × (((beside (length outers) n n0).arrays j ≡ (beside (length outers) n' n0).arrays j) × ((beside (length outers) n n0).text_arrays j ≡ (beside (length outers) n' n0).text_arrays j)))
    by_place (inl h) =
        let o = same j kind h in (
          ap (λ z. cond (nat_lt j (length outers)) z (n0.numbers j)) o.0,
          (ap (λ z. cond (nat_lt j (length outers)) z (n0.texts j)) o.1.0, (ap (λ z. cond (nat_lt j (length outers)) z (n0.arrays j)) o.1.1.0, ap (λ z. cond (nat_lt j (length outers)) z (n0.text_arrays j)) o.1.1.1)),
        )
    by_place (inr h) = (
      chosen_behind (length outers) j (n.numbers j) (n0.numbers j) h.0 ∙ sym (chosen_behind (length outers) j (n'.numbers j) (n0.numbers j) h.0),
      (
        chosen_behind (length outers) j (n.texts j) (n0.texts j) h.0 ∙ sym (chosen_behind (length outers) j (n'.texts j) (n0.texts j) h.0),
        (
          chosen_behind (length outers) j (n.arrays j) (n0.arrays j) h.0 ∙ sym (chosen_behind (length outers) j (n'.arrays j) (n0.arrays j) h.0),
          chosen_behind (length outers) j (n.text_arrays j) (n0.text_arrays j) h.0 ∙ sym (chosen_behind (length outers) j (n'.text_arrays j) (n0.text_arrays j) h.0),
        ),
      ),
    )

put_by : {A : Type 0} (q r : Bool) (x y z : A) → (q ≡ true → r ≡ true) → cond q z (cond r x y) ≡ cond r (cond q z x) y
put_by true true x y z h = refl
put_by true false x y z h = let no : false ≡ true = h refl in absurd (cc no)
put_by false true x y z h = refl
put_by false false x y z h = refl

part_by : {A : Type 0} (q r : Bool) (f : A → A) (x y : A) → (q ≡ true → r ≡ true) → cond q (f (cond r x y)) (cond r x y) ≡ cond r (cond q (f x) x) y
part_by true true f x y h = refl
part_by true false f x y h = let no : false ≡ true = h refl in absurd (cc no)
part_by false true f x y h = refl
part_by false false f x y h = refl

here_first : (count i j : ℕ) → j < count → (i == j) ≡ true → nat_lt i count ≡ true
here_first count i j below e = let same = eqb-true i j e in lt-ltb i count (omega (arith, below, same))

number_beside : (types : Types) (count : ℕ) (n n0 : Values) (j : ℕ) (z : ℤ) → j < count → SameValues types (with_number_at (beside count n n0) j z) (beside count (with_number_at n j z) n0)
number_beside types count n n0 j z below i kind at =
    (put_by (i == j) (nat_lt i count) (n.numbers i) (n0.numbers i) z (here_first count i j below), (refl, (refl, refl)))

text_beside : (types : Types) (count : ℕ) (n n0 : Values) (j : ℕ) (text : List ℕ) → j < count → SameValues types (with_text_at (beside count n n0) j text) (beside count (with_text_at n j text) n0)
text_beside types count n n0 j text below i kind at =
    (refl, (put_by (i == j) (nat_lt i count) (n.texts i) (n0.texts i) text (here_first count i j below), (refl, refl)))

element_beside : (types : Types) (count : ℕ) (n n0 : Values) (j p : ℕ) (z : ℤ) → j < count → SameValues types (with_element_of (beside count n n0) j p z) (beside count (with_element_of n j p z) n0)
element_beside types count n n0 j p z below i kind at =
    (refl, (refl, (part_by (i == j) (nat_lt i count) (λ u. with_element_at u p z) (n.arrays i) (n0.arrays i) (here_first count i j below), refl)))

text_element_beside : (types : Types) (count : ℕ) (n n0 : Values) (j p : ℕ) (text : List ℕ) → j < count → SameValues types (with_text_of (beside count n n0) j p text) (beside count (with_text_of n j p text) n0)
text_element_beside types count n n0 j p text below i kind at =
    (refl, (refl, (refl, part_by (i == j) (nat_lt i count) (λ u. with_text_in u p text) (n.text_arrays i) (n0.text_arrays i) (here_first count i j below))))

-- ---- where they stand

pub same_data : {outer : Names} {outers : Types} {block : Names} {types : Types} (e : Environment) (b : Narrows outer outers block types) (j : ℕ) {kind : Kind} → slice_get outers j ≡ Some kind → data_place e outer j ≡ data_place e block j
same_data e b j at = ap (λ (u : Spot). automatic_place e.parts e.program u.number u.level u.index + 16 + 0) (b.spots j at)

pub same_level : {outer : Names} {outers : Types} {block : Names} {types : Types} (b : Narrows outer outers block types) (j : ℕ) {kind : Kind} → slice_get outers j ≡ Some kind → level_of outer j ≡ level_of block j
same_level b j at = ap (λ (u : Spot). u.level) (b.spots j at)

abbrev pub narrowed_ground : {e : Environment} {block : Names} {types : Types} → Block e block types → (outers : Types) → Values → Values → Ground
narrowed_ground bl outers n0 n = bl.ground (beside (length outers) n n0)

pub narrowed_reaches : {e : Environment} {outer : Names} {outers : Types} {block : Names} {types : Types} (bl : Block e block types) (b : Narrows outer outers block types) (n0 n : Values) (j : ℕ) (kind : Kind) → slice_get outers j ≡ Some kind → Reaches (level_of outer j == e.level) (level_of outer j) (narrowed_ground bl outers n0 n) (bl.bases j)
narrowed_reaches {e} {outers = outers} bl b n0 n j kind at =
    subst (λ l. Reaches (l == e.level) l (narrowed_ground bl outers n0 n) (bl.bases j)) (sym (same_level b j at)) (bl.reaches (beside (length outers) n n0) j (b.among j at))

pub narrowed_reads : {e : Environment} {outer : Names} {outers : Types} {block : Names} {types : Types} (bl : Block e block types) (b : Narrows outer outers block types) (n0 n : Values) (j : ℕ) (type : Y.LeafType) → slice_get outers j ≡ Some (alone type) → Fits type (n.numbers j) → (t : ℕ → ℕ) (base : Base) (m : List ℕ) → (narrowed_ground bl outers n0 n).memory t base m → extended (load_kind type) (load (load_width (load_kind type)) m (bl.bases j + data_place e outer j)) ≡ word (n.numbers j)
narrowed_reads {e} {outers = outers} bl b n0 n j type at fits t base m held =
    let mine = chosen_before (length outers) j (n.numbers j) (n0.numbers j) (place_below outers j _ at) in
    ap (λ p. extended (load_kind type) (load (load_width (load_kind type)) m (bl.bases j + p))) (same_data e b j at)
    ∙ bl.reads (beside (length outers) n n0) j (b.among j at) (subst (Fits type) (sym mine) fits) t base m held
    ∙ ap word mine

pub narrowed_writes : {e : Environment} {outer : Names} {outers : Types} {block : Names} {types : Types} (bl : Block e block types) (b : Narrows outer outers block types) (n0 n : Values) (j : ℕ) (z : ℤ) (type : Y.LeafType) → slice_get outers j ≡ Some (alone type) → Fits type (n.numbers j) → Fits type z → (t : ℕ → ℕ) (base : Base) (m : List ℕ) → length m ≡ memory_size → (narrowed_ground bl outers n0 n).memory t base m → (narrowed_ground bl outers n0 (with_number_at n j z)).memory t base (store (store_width (store_kind type)) m (bl.bases j + data_place e outer j) (word z))
narrowed_writes {e} {outers = outers} {block = block} {types = types} bl b n0 n j z type at old fits t base m len held =
    let count = length outers in
    let below = place_below outers j _ at in
    let mine = chosen_before count j (n.numbers j) (n0.numbers j) below in
    subst (λ p. (narrowed_ground bl outers n0 (with_number_at n j z)).memory t base (store (store_width (store_kind type)) m (bl.bases j + p) (word z))) (sym (same_data e b j at))
    (bl.alike (with_number_at (beside count n n0) j z) (beside count (with_number_at n j z) n0) (number_beside types count n n0 j z below) t base (store (store_width (store_kind type)) m (bl.bases j + data_place e block j) (word z))
    (bl.writes (beside count n n0) j z (b.among j at) (subst (Fits type) (sym mine) old) fits t base m len held))

pub narrowed_text_reads : {e : Environment} {outer : Names} {outers : Types} {block : Names} {types : Types} (bl : Block e block types) (b : Narrows outer outers block types) (n0 n : Values) (j : ℕ) (varying : Bool) (most : ℕ) → IsTextAt outers j varying most → (t : ℕ → ℕ) (base : Base) (m : List ℕ) → (narrowed_ground bl outers n0 n).memory t base m → TextThere varying most (bl.bases j + data_place e outer j) m (n.texts j)
narrowed_text_reads {e} {outer} {outers} bl b n0 n j varying most at t base m held =
    subst (TextThere varying most (bl.bases j + data_place e outer j) m) (chosen_before (length outers) j (n.texts j) (n0.texts j) (place_below outers j _ at))
    (subst (λ p. TextThere varying most (bl.bases j + p) m ((beside (length outers) n n0).texts j)) (sym (same_data e b j at))
    (bl.texts.reads (beside (length outers) n n0) j varying most (b.among j at) t base m held))

pub narrowed_text_writes : {e : Environment} {outer : Names} {outers : Types} {block : Names} {types : Types} (bl : Block e block types) (b : Narrows outer outers block types) (n0 n : Values) (j : ℕ) (varying : Bool) (most : ℕ) (text : List ℕ) → IsTextAt outers j varying most → (t : ℕ → ℕ) (base : Base) (m : List ℕ) → length m ≡ memory_size → (narrowed_ground bl outers n0 n).memory t base m → (narrowed_ground bl outers n0 (with_text_at n j (text_kept_as varying most text))).memory t base (with_bytes (kept_bytes (text_kind_of varying most) (BasicText text)) (bl.bases j + data_place e outer j) m)
narrowed_text_writes {e} {outers = outers} {block = block} {types = types} bl b n0 n j varying most text at t base m len held =
    let count = length outers in
    let kept = text_kept_as varying most text in
    let bytes = kept_bytes (text_kind_of varying most) (BasicText text) in
    subst (λ p. (narrowed_ground bl outers n0 (with_text_at n j kept)).memory t base (with_bytes bytes (bl.bases j + p) m)) (sym (same_data e b j at))
    (bl.alike (with_text_at (beside count n n0) j kept) (beside count (with_text_at n j kept) n0) (text_beside types count n n0 j kept (place_below outers j _ at)) t base (with_bytes bytes (bl.bases j + data_place e block j) m)
    (bl.texts.writes (beside count n n0) j varying most text (b.among j at) t base m len held))

pub narrowed_array : {e : Environment} {outer : Names} {outers : Types} {block : Names} {types : Types} (bl : Block e block types) (b : Narrows outer outers block types) (n0 : Values) (j : ℕ) (type : Y.LeafType) (c : Bounds) (cs : List Bounds) → IsArrayAt outers j type c cs → ArrayOn e outer (bl.bases j) bl.stack.free (narrowed_ground bl outers n0) j type (c ∷ cs)
narrowed_array {e} {outer} {outers} {block} {types} bl b n0 j type c cs at =
    let on = bl.arrays j type c cs (b.among j at.0, at.1) in
    let count = length outers in
    let below = place_below outers j _ at.0 in
    let d = same_data e b j at.0 in
    let under = on.under in
    let mine : (n : Values) → (beside count n n0).arrays j ≡ n.arrays j = λ n. chosen_before count j (n.arrays j) (n0.arrays j) below in
    record {
      declared = (on.declared.0, ap (λ (u : Spot). slice_get (variables_of_block e.program u.number) u.index) (b.spots j at.0) ∙ on.declared.1);
      bounds = on.bounds;
      few = on.few;
      within = on.within;
      under = omega (arith, under, d);
      places = λ p inside. subst (λ x. PlaceFrom (bl.bases j + 4 * p) (pos x) (bl.bases j + 4 * p + x)) (sym d) (on.places p inside);
      reads = λ n p inside fits t base m held.
          ap (λ x. extended (load_kind type) (load (load_width (load_kind type)) m (bl.bases j + 4 * p + x))) d
          ∙ on.reads (beside count n n0) p inside (subst (λ (u : ℕ → ℤ). Fits type (u p)) (sym (mine n)) fits) t base m held
          ∙ ap (λ (u : ℕ → ℤ). word (u p)) (mine n);
      writes = λ n p z inside old fits t base m len held.
          subst (λ x. (narrowed_ground bl outers n0 (with_element_of n j p z)).memory t base (store (store_width (store_kind type)) m (bl.bases j + 4 * p + x) (word z))) (sym d)
          (bl.alike (with_element_of (beside count n n0) j p z) (beside count (with_element_of n j p z) n0) (element_beside types count n n0 j p z below) t base (store (store_width (store_kind type)) m (bl.bases j + 4 * p + data_place e block j) (word z))
          (on.writes (beside count n n0) p z inside (subst (λ (u : ℕ → ℤ). Fits type (u p)) (sym (mine n)) old) fits t base m len held));
    }

pub narrowed_text_array : {e : Environment} {outer : Names} {outers : Types} {block : Names} {types : Types} (bl : Block e block types) (b : Narrows outer outers block types) (n0 : Values) (j : ℕ) (varying : Bool) (most : ℕ) (c : Bounds) (cs : List Bounds) → IsTextArrayAt outers j varying most c cs → TextArrayOn e outer (bl.bases j) bl.stack.free (narrowed_ground bl outers n0) j varying most (c ∷ cs)
narrowed_text_array {e} {outer} {outers} {block} {types} bl b n0 j varying most c cs at =
    let on = bl.text_arrays j varying most c cs (b.among j at) in
    let count = length outers in
    let below = place_below outers j _ at in
    let d = same_data e b j at in
    let within = on.within in
    let under = on.under in
    let stride = text_stride varying most in
    let mine : (n : Values) → (beside count n n0).text_arrays j ≡ n.text_arrays j = λ n. chosen_before count j (n.text_arrays j) (n0.text_arrays j) below in
    record {
      declared = (on.declared.0, ap (λ (u : Spot). slice_get (variables_of_block e.program u.number) u.index) (b.spots j at) ∙ on.declared.1);
      bounds = on.bounds;
      few = on.few;
      some = on.some;
      short = on.short;
      high = on.high;
      within = omega (arith, within, d);
      under = omega (arith, under, d);
      reads = λ n p inside t base m held.
          subst (λ x. TextThere varying most (bl.bases j + p * stride + x) m (n.text_arrays j p)) (sym d)
          (subst (λ (u : ℕ → List ℕ). TextThere varying most (bl.bases j + p * stride + data_place e block j) m (u p)) (mine n)
          (on.reads (beside count n n0) p inside t base m held));
      writes = λ n p text inside t base m len held.
          let kept = text_kept_as varying most text in
          let bytes = kept_bytes (text_kind_of varying most) (BasicText text) in
          subst (λ x. (narrowed_ground bl outers n0 (with_text_of n j p kept)).memory t base (with_bytes bytes (bl.bases j + p * stride + x) m)) (sym d)
          (bl.alike (with_text_of (beside count n n0) j p kept) (beside count (with_text_of n j p kept) n0) (text_element_beside types count n n0 j p kept below) t base (with_bytes bytes (bl.bases j + p * stride + data_place e block j) m)
          (on.writes (beside count n n0) p text inside t base m len held));
    }

pub narrowed_named : {e : Environment} {outer : Names} {outers : Types} {block : Names} {types : Types} (bl : Block e block types) (b : Narrows outer outers block types) (n0 : Values) (j : ℕ) (type : Y.LeafType) (c : Bounds) (cs : List Bounds) → slice_get outers j ≡ Some (record { type = type; bounds = c ∷ cs }) → level_of outer j ≡ 0 → ArrayNamed e outer (bl.bases j) (narrowed_ground bl outers n0) bl.serials j (record { type = type; bounds = c ∷ cs })
narrowed_named {e} {outer} {outers} {block} {types} bl b n0 j type c cs at outermost =
    let on = bl.array_names j type c cs (b.among j at) (sym (same_level b j at) ∙ outermost) in
    let d = same_data e b j at in
    let here = on.at in
    let same : bl.bases j + place_of_name e block j ≡ bl.bases j + place_of_name e outer j = omega (arith, d) in
    record {
      living = on.living;
      lives = on.lives;
      signature = on.signature;
      at = omega (arith, here, d);
      aligned = on.aligned;
      high = on.high;
      room = on.room;
      own = λ n t base m held. on.own (beside (length outers) n n0) t base m held;
      names = λ n t base m held. subst (λ p. NameThere m p (bl.serials.of j)) same (on.names (beside (length outers) n n0) t base m held);
    }

-- ---- the main procedure around it

-- none is, where it is the main procedure's own block
abbrev pub narrowed_outer : {e : Environment} {block : Names} {types : Types} (bl : Block e block types) (place : ℕ) (mains : List Label) → HasMain place mains e.level e.block bl.labels bl.outer → List OuterBlock
narrowed_outer bl place mains (inl h) = []
narrowed_outer bl place mains (inr h) = main_of place mains ∷ []

abbrev pub narrowed_enclosing : {e : Environment} {block : Names} {types : Types} (bl : Block e block types) (outers : Types) (n0 : Values) (place : ℕ) (mains : List Label) (o : OuterBlock) → Enclosing e o bl.ground bl.levels bl.frames.list (e.level ∷ bl.depths) → o.level ≡ 0 → o.number ≡ place → Enclosing e (main_of place mains) (narrowed_ground bl outers n0) bl.levels bl.frames.list (e.level ∷ bl.depths)
narrowed_enclosing {e} bl outers n0 place mains o c lowest same =
    let count = length outers in
    let deeper = c.deeper in
    record {
      its = λ n. c.its (beside count n n0);
      waits = c.waits;
      frame = c.frame;
      free = c.free;
      frame_is = λ n. c.frame_is (beside count n n0);
      free_is = λ n. c.free_is (beside count n n0);
      above = c.above;
      ends = c.ends;
      sized = λ first. subst (λ l. c.frame + frame_end e.parts e.program place l ≡ c.free) lowest (subst (λ m. c.frame + frame_end e.parts e.program m o.level ≡ c.free) same (c.sized (inl lowest)));
      kept = λ n t b m held. c.kept (beside count n n0) t b m held;
      own = λ n t b m held. c.own (beside count n n0) t b m held;
      deeper = omega (arith, deeper, lowest);
      shown = ap bl.levels (sym lowest) ∙ c.shown;
      count = c.count;
      behind = c.behind;
      depths = c.depths;
      lowest = λ u. c.lowest lowest;
      rises = subst (λ l. Rises (suc c.count) c.frame l bl.frames.list (e.level ∷ bl.depths) c.behind c.depths) lowest c.rises;
      serials = c.serials;
      names = c.names;
      types = c.types;
      beneath = λ j kind at. (let low = (c.beneath j kind at).0 in omega (arith, low, lowest), (c.beneath j kind at).1);
    }

abbrev pub narrowed_main : {e : Environment} {block : Names} {types : Types} (bl : Block e block types) (outers : Types) (n0 : Values) (place : ℕ) (mains : List Label) (os : List OuterBlock) → Enclosures e bl.ground bl.levels bl.frames.list (e.level ∷ bl.depths) os → MainAround place mains os → Enclosing e (main_of place mains) (narrowed_ground bl outers n0) bl.levels bl.frames.list (e.level ∷ bl.depths)
narrowed_main bl outers n0 place mains [] cs has = absurd has
narrowed_main bl outers n0 place mains (o ∷ os) cs (inl h) =
    narrowed_enclosing bl outers n0 place mains o cs.0 h.0 h.1.0
narrowed_main bl outers n0 place mains (o ∷ os) cs (inr h) = narrowed_main bl outers n0 place mains os cs.1 h

abbrev pub narrowed_enclosures : {e : Environment} {block : Names} {types : Types} (bl : Block e block types) (outers : Types) (n0 : Values) (place : ℕ) (mains : List Label) (has : HasMain place mains e.level e.block bl.labels bl.outer) → Enclosures e (narrowed_ground bl outers n0) bl.levels bl.frames.list (e.level ∷ bl.depths) (narrowed_outer bl place mains has)
narrowed_enclosures bl outers n0 place mains (inl h) = tt
narrowed_enclosures bl outers n0 place mains (inr h) = (narrowed_main bl outers n0 place mains bl.outer bl.enclosing h, tt)

narrowed_main_seen : {e : Environment} {outer : Names} {outers : Types} {block : Names} {types : Types} (bl : Block e block types) (b : Narrows outer outers block types) (n0 : Values) (place : ℕ) (mains : List Label) (os : List OuterBlock) (cs : Enclosures e bl.ground bl.levels bl.frames.list (e.level ∷ bl.depths) os) (has : MainAround place mains os) → AllSeen e bl.ground bl.levels bl.frames.list (e.level ∷ bl.depths) os cs bl.serials block types → Restricts bl.serials outer outers (narrowed_main bl outers n0 place mains os cs has).serials (narrowed_main bl outers n0 place mains os cs has).names (narrowed_main bl outers n0 place mains os cs has).types
narrowed_main_seen bl b n0 place mains [] cs has seen = absurd has
narrowed_main_seen bl b n0 place mains (o ∷ os) cs (inl h) seen =
    narrows_seen b seen.0 (λ j kind at. let low = (cs.0.beneath j kind at).0 in let first = h.0 in omega (arith, low, first))
narrowed_main_seen bl b n0 place mains (o ∷ os) cs (inr h) seen =
    narrowed_main_seen bl b n0 place mains os cs.1 h seen.1

pub narrowed_seen : {e : Environment} {outer : Names} {outers : Types} {block : Names} {types : Types} (bl : Block e block types) (b : Narrows outer outers block types) (n0 : Values) (place : ℕ) (mains : List Label) (has : HasMain place mains e.level e.block bl.labels bl.outer) → AllSeen e (narrowed_ground bl outers n0) bl.levels bl.frames.list (e.level ∷ bl.depths) (narrowed_outer bl place mains has) (narrowed_enclosures bl outers n0 place mains has) bl.serials outer outers
narrowed_seen bl b n0 place mains (inl h) = tt
narrowed_seen bl b n0 place mains (inr h) =
    (narrowed_main_seen bl b n0 place mains bl.outer bl.enclosing h bl.seen, tt)

-- the block comes to the main procedure's own labels as before
pub narrowed_has : {e : Environment} {block : Names} {types : Types} (bl : Block e block types) (place : ℕ) (mains : List Label) (has : HasMain place mains e.level e.block bl.labels bl.outer) → HasMain place mains e.level e.block bl.labels (narrowed_outer bl place mains has)
narrowed_has bl place mains (inl h) = inl h
narrowed_has bl place mains (inr h) = inr (inl (refl, (refl, λ label among. among)))

-- ---- the block

abbrev pub narrowed : {e : Environment} {outer : Names} {outers : Types} {block : Names} {types : Types} (bl : Block e block types) (b : Narrows outer outers block types) (n0 : Values) (x : Aside) (place : ℕ) (mains : List Label) → HasMain place mains e.level e.block bl.labels bl.outer → Block e outer outers
narrowed {e} {outer} {outers} {block} {types} bl b n0 x place mains has =
    let count = length outers in
    record {
      ground = narrowed_ground bl outers n0;
      words = bl.words;
      taken = bl.taken;
      labels = bl.labels;
      base = bl.base;
      within = bl.within;
      words_are = λ n. bl.words_are (beside count n n0);
      same = λ n n' b' h. bl.same (beside count n n0) (beside count n' n0) b' h;
      temps = λ n. bl.temps (beside count n n0);
      alike = λ n n' same t b' m held. bl.alike (beside count n n0) (beside count n' n0) (beside_same b n n' n0 same) t b' m held;
      declared = λ j at. let d = bl.declared j (b.among j at) in (d.0, ap (λ (u : Spot). slice_get (variables_of_block e.program u.number) u.index) (b.spots j at) ∙ d.1);
      reach = λ n. bl.reach (beside count n n0);
      named = b.program ∙ bl.named;
      lower = λ j at. let l = b.lowest j at in omega (arith, l);
      bases = bl.bases;
      reaches = λ n j at. narrowed_reaches bl b n0 n j _ at;
      inside = λ j at. bl.inside j (b.among j at);
      places = λ j at. subst (λ p. PlaceFrom (bl.bases j) (pos p) (bl.bases j + p)) (sym (same_data e b j at)) (bl.places j (b.among j at));
      reads = λ n j at fits t b' m held. narrowed_reads bl b n0 n j _ at fits t b' m held;
      writes = λ n j z at old fits t b' m len held. narrowed_writes bl b n0 n j z _ at old fits t b' m len held;
      held = bl.held;
      frames = put_aside x bl.frames;
      serials = bl.serials;
      bottom = record {
        holds = bl.bottom.holds;
        aligned = bl.bottom.aligned;
        room = bl.bottom.room;
        own = bl.bottom.own;
        kept = λ n t b' m held. bl.bottom.kept (beside count n n0) t b' m held;
        rest = bl.bottom.rest;
      };
      depths = bl.depths;
      shallow = bl.shallow;
      owners = λ j at. bl.owners j (b.among j at);
      first_owner = λ j at low. bl.first_owner j (b.among j at) (sym (same_level b j at) ∙ low);
      stack = record {
        frame = bl.stack.frame;
        free = bl.stack.free;
        frame_is = λ n. bl.stack.frame_is (beside count n n0);
        free_is = λ n. bl.stack.free_is (beside count n n0);
        aligned = bl.stack.aligned;
        high = bl.stack.high;
        above = bl.stack.above;
        over = bl.stack.over;
        keeps = λ n t b' m w p y over held. bl.stack.keeps (beside count n n0) t b' m w p y over held;
        keeps_bytes = λ n t b' m bytes p over room held. bl.stack.keeps_bytes (beside count n n0) t b' m bytes p over room held;
        under = λ j at. let d = same_data e b j at in let u = bl.stack.under j (b.among j at) in omega (arith, d, u);
      };
      alone = bl.alone;
      lead = bl.lead;
      leads = bl.leads;
      ends = bl.ends;
      sized = bl.sized;
      own = λ n t b' m held. bl.own (beside count n n0) t b' m held;
      levels = bl.levels;
      level_room = bl.level_room;
      outermost_level = bl.outermost_level;
      displays = λ n t b' m j below held. bl.displays (beside count n n0) t b' m j below held;
      leveled = λ j at. ap (λ l. cond (l == e.level) bl.stack.frame (bl.levels l)) (same_level b j at) ∙ bl.leveled j (b.among j at);
      texts = record {
        room = record {
          high = λ j varying most at. bl.texts.room.high j varying most (b.among j at);
          short = λ j varying most at. bl.texts.room.short j varying most (b.among j at);
          inside = λ j varying most at. let d = same_data e b j at in let h = bl.texts.room.inside j varying most (b.among j at) in omega (arith, d, h);
        };
        under = λ j varying most at. let d = same_data e b j at in let h = bl.texts.under j varying most (b.among j at) in omega (arith, d, h);
        reads = λ n j varying most at t b' m held. narrowed_text_reads bl b n0 n j varying most at t b' m held;
        writes = λ n j varying most text at t b' m len held. narrowed_text_writes bl b n0 n j varying most text at t b' m len held;
      };
      arrays = λ j type c cs at. narrowed_array bl b n0 j type c cs at;
      text_arrays = λ j varying most c cs at. narrowed_text_array bl b n0 j varying most c cs at;
      array_names = λ j type c cs at outermost. narrowed_named bl b n0 j type c cs at outermost;
      outer = narrowed_outer bl place mains has;
      enclosing = narrowed_enclosures bl outers n0 place mains has;
      seen = narrowed_seen bl b n0 place mains has;
    }
