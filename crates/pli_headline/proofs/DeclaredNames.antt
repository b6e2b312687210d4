-- The names and types of a block that declares variables: those around it, and behind them its own.
use Rattle.std.proofs.Common.{◌≡◌, ℕ, zero, suc, ◌+◌, ◌-◌, ◌<◌, ◌≤◌, ◌⊎◌, inl, inr, List, [], ◌∷◌, ◌++◌, length, Some, refl, sym, ap, ◌∙◌, subst, arith}
use Rattle.std.specs.Prelude.{cond, nat_lt, slice_get}
use Rattle.std.proofs.lemmas.Bool.{lt-ltb, le-ltb, cases_lt}
use Rattle.pli_typing.specs.TypedTree as Y
use Rattle.pli_meaning.specs.DeclaredShapes.{variables_of_block}
use Rattle.pli_coding.specs.Environments.{Environment}
use Rattle.pli_coding.specs.Statements.{begin_environment}
use Rattle.pli_headline.specs.ProvedSoFar.{Names, Spot, Kind, Types, IsPlain, ArePlain, names_with, names_from, names_in, types_in, declared_kind}
use Rattle.pli_headline.proofs.Scalars.{place_below}
use Rattle.pli_headline.proofs.Variables.{IsDeclaredAs, HasTypes}
use Rattle.pli_headline.proofs.MainProcedure.{typed_plain}

-- ---- places among the types

slice_front : {A : Type 0} (xs ys : List A) (j : ℕ) → j < length xs → slice_get (xs ++ ys) j ≡ slice_get xs j
slice_front [] ys j h = absurd (omega (arith, h))
slice_front (x ∷ xs) ys zero h = refl
slice_front (x ∷ xs) ys (suc j) h = slice_front xs ys j (omega (arith, h))

pub slice_behind : {A : Type 0} (xs ys : List A) (i : ℕ) → slice_get (xs ++ ys) (length xs + i) ≡ slice_get ys i
slice_behind [] ys i = let e : 0 + i ≡ i = omega arith in ap (λ n. slice_get ys n) e
slice_behind (x ∷ xs) ys i =
    let e : length (x ∷ xs) + i ≡ suc (length xs + i) = omega arith in
    ap (λ n. slice_get (x ∷ (xs ++ ys)) n) e ∙ slice_behind xs ys i

-- around, or its own
pub record Around (types : Types) (j : ℕ) (kind : Kind) : Type 0 where
  pub below : j < length types
  pub at : slice_get types j ≡ Some kind

pub record Inside (types more : Types) (j : ℕ) (kind : Kind) : Type 0 where
  pub place : ℕ
  pub is : j ≡ length types + place
  pub at : slice_get more place ≡ Some kind

pub place_of_kind : (types more : Types) (j : ℕ) {kind : Kind} → slice_get (types ++ more) j ≡ Some kind → Around types j kind ⊎ Inside types more j kind
place_of_kind types more j {kind} h = by_place (cases_lt j (length types))
  where
    by_place : (j < length types) ⊎ (length types ≤ j) → Around types j kind ⊎ Inside types more j kind
    by_place (inl less) = inl (record { below = less; at = sym (slice_front types more j less) ∙ h })
    by_place (inr most) =
        let i = j - length types in
        let e : j ≡ length types + i = omega (arith, most) in
        inr (record { place = i; is = e; at = sym (slice_behind types more i) ∙ sym (ap (λ n. slice_get (types ++ more) n) e) ∙ h })

pub kind_around : (types more : Types) (j : ℕ) {kind : Kind} → slice_get types j ≡ Some kind → slice_get (types ++ more) j ≡ Some kind
kind_around types more j {kind} h = slice_front types more j (place_below types j kind h) ∙ h

-- each of them, or the last one
pub by_last : (types : Types) (k : Kind) (P : ℕ → Kind → Type 0) → ((j : ℕ) (kind : Kind) → j < length types → slice_get types j ≡ Some kind → P j kind) → P (length types) k → (j : ℕ) (kind : Kind) → slice_get (types ++ (k ∷ [])) j ≡ Some kind → P j kind
by_last types k P around own j kind at = by_place (place_of_kind types (k ∷ []) j at)
  where
    at_end : (i : ℕ) → j ≡ length types + i → slice_get (k ∷ []) i ≡ Some kind → P j kind
    at_end zero e h =
        let same : k ≡ kind = cc h in
        let here : length types ≡ j = omega (arith, e) in
        subst (λ u. P u kind) here (subst (P (length types)) same own)
    at_end (suc i) e h = absurd (cc h)

    by_place : Around types j kind ⊎ Inside types (k ∷ []) j kind → P j kind
    by_place (inl o) = around j kind o.below o.at
    by_place (inr o) = at_end o.place o.is o.at

pub last_kind : (types : Types) (k : Kind) → slice_get (types ++ (k ∷ [])) (length types) ≡ Some k
last_kind types k =
    let e : length types ≡ length types + 0 = omega arith in
    ap (λ i. slice_get (types ++ (k ∷ [])) i) e ∙ slice_behind types (k ∷ []) 0

-- ---- names

pub chosen_before : {A : Type 0} (count j : ℕ) (x y : A) → j < count → cond (nat_lt j count) x y ≡ x
chosen_before count j x y below = ap (λ q. cond q x y) (lt-ltb j count below)

pub chosen_here : {A : Type 0} (count : ℕ) (x y : A) → cond (nat_lt count count) x y ≡ y
chosen_here count x y = ap (λ q. cond q x y) (le-ltb count count (omega arith))

named_from : (block : Names) (types : Types) (number level index : ℕ) (ds : List Y.DeclaredVariable) {program : Y.Program} → block.program ≡ program → (names_from block types number level index ds).program ≡ program
named_from block types number level index [] named = named
named_from block types number level index (d ∷ ds) named =
    named_from (names_with block (length types) (record { number = number; level = level; index = index })) (types ++ (declared_kind d ∷ [])) number level (suc index) ds named

pub named_in : (block : Names) (types : Types) (head : Y.BlockHead) (ds : List Y.DeclaredVariable) {program : Y.Program} → block.program ≡ program → (names_in block types head ds).program ≡ program
named_in block types head ds named = named_from block types head.number head.level 0 ds named

has_more : (e : Environment) (block : Names) (types : Types) (number level index : ℕ) (d : Y.DeclaredVariable) → slice_get (variables_of_block e.program number) index ≡ Some d → IsPlain d → HasTypes e block types → HasTypes e (names_with block (length types) (record { number = number; level = level; index = index })) (types ++ (declared_kind d ∷ []))
has_more e block types number level index d stands is has j kind at =
    let spot : Spot = record { number = number; level = level; index = index } in
    by_last types (declared_kind d) (λ i kind'. IsDeclaredAs e (names_with block (length types) spot) i kind')
    (λ i kind' below at'.
    let known = has i kind' at' in
    (known.0, ap (λ (u : Spot). slice_get (variables_of_block e.program u.number) u.index) (chosen_before (length types) i (block.at i) spot below) ∙ known.1))
    (is.initial, ap (λ (u : Spot). slice_get (variables_of_block e.program u.number) u.index) (chosen_here (length types) (block.at (length types)) spot) ∙ stands ∙ ap (λ u. Some u) (typed_plain d (declared_kind d) is refl))
    j kind at

has_from : (e : Environment) (block : Names) (types : Types) (number level index : ℕ) (ds : List Y.DeclaredVariable) → ((i : ℕ) → slice_get (variables_of_block e.program number) (index + i) ≡ slice_get ds i) → ArePlain ds → HasTypes e block types → HasTypes e (names_from block types number level index ds) (types_in types ds)
has_from e block types number level index [] stand are has = has
has_from e block types number level index (d ∷ ds) stand are has =
    let here : index + 0 ≡ index = omega arith in
    has_from e (names_with block (length types) (record { number = number; level = level; index = index })) (types ++ (declared_kind d ∷ [])) number level (suc index) ds
    (λ i. let e' : suc index + i ≡ index + suc i = omega arith in ap (λ n. slice_get (variables_of_block e.program number) n) e' ∙ stand (suc i)) are.1
    (has_more e block types number level index d (ap (λ n. slice_get (variables_of_block e.program number) n) (sym here) ∙ stand 0) are.0 has)

-- all of them are declared
pub has_in : (e : Environment) (block : Names) (types : Types) (head : Y.BlockHead) → block.program ≡ e.program → ArePlain (variables_of_block e.program head.number) → HasTypes e block types → HasTypes (begin_environment head e) (names_in block types head (variables_of_block block.program head.number)) (types_in types (variables_of_block block.program head.number))
has_in e block types head named declaring has =
    subst (λ p. HasTypes (begin_environment head e) (names_in block types head (variables_of_block p head.number)) (types_in types (variables_of_block p head.number))) (sym named)
    (has_from (begin_environment head e) block types head.number head.level 0 (variables_of_block e.program head.number) (λ i. let z : 0 + i ≡ i = omega arith in ap (λ n. slice_get (variables_of_block e.program head.number) n) z) declaring has)
