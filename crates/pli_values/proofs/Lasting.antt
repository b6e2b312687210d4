-- What items give the elements one behind the other.
use Rattle.std.proofs.Common.{◌≡◌, ◌<◌, ℕ, ◌+◌, ◌-◌, Bool, true, false, Option, Some, None, is_some, nat_lt, unwrap_or, List, [], ◌∷◌, if◌then◌else◌, refl, sym, ap, ◌∙◌, arith}
use Rattle.std.proofs.lemmas.Bool.Decides.{nat_tests}
use Rattle.pli_language.specs.Tree.{InitialItem, InitialSkip}
use Rattle.pli_typing.specs.Signatures.{LeafKind}
use Rattle.pli_meaning.specs.Contents.{initial_at}
use Rattle.pli_serving.specs.Finding.{Call}
use Rattle.pli_serving.specs.Templates.{put_before}
use Rattle.pli_serving.specs.InitialValues.{items_from, item_at}
use Rattle.pli_values.proofs.Items.{behind_at, items_more}

right_behind : (a : InitialItem) (rest : Option (List InitialItem)) → is_some (put_before (Some a) rest) ≡ true → is_some rest ≡ true
right_behind a None h = h
right_behind a (Some rest) h = refl

behind_first : (a : InitialItem) (rest : Option (List InitialItem)) → is_some rest ≡ true → unwrap_or (put_before (Some a) rest) [] ≡ a ∷ unwrap_or rest []
behind_first a None h = absurd (cc)
behind_first a (Some rest) h = refl

-- an item of no element gives none
pub none_of : (i : InitialItem) (is : List InitialItem) (n : ℕ) → i.repetition ≡ 0 → initial_at is n ≡ initial_at (i ∷ is) n
none_of i is n e =
    let d : n ≡ n - i.repetition = omega arith in
    let t : false ≡ nat_lt n i.repetition = grind (arith, nat_tests) in
    ap (initial_at is) d ∙ ap (λ (b : Bool). if b then i.value else initial_at is (n - i.repetition)) t

pub right_next : (c : Call) (kind : LeafKind) (left at next : ℕ) (a : InitialItem) → 0 < left → Some a ≡ item_at c kind at → next ≡ behind_at c at → is_some (items_from c kind left at) ≡ true → is_some (items_from c kind (left - 1) next) ≡ true
right_next c kind left at next a more e n h =
    ap (λ k. is_some (items_from c kind (left - 1) k)) n
    ∙ right_behind a (items_from c kind (left - 1) (behind_at c at)) (ap (λ o. is_some (put_before o (items_from c kind (left - 1) (behind_at c at)))) e ∙ sym (ap is_some (items_more c kind left at more)) ∙ h)

pub same_next : (c : Call) (kind : LeafKind) (left at next : ℕ) (i a : InitialItem) (n : ℕ) → i.repetition ≡ 0 → 0 < left → Some a ≡ item_at c kind at → next ≡ behind_at c at → is_some (items_from c kind left at) ≡ true → initial_at (a ∷ unwrap_or (items_from c kind (left - 1) next) []) n ≡ initial_at (i ∷ unwrap_or (items_from c kind left at) []) n
same_next c kind left at next i a n r more e f h =
    let right = right_next c kind left at next a more e f h in
    let rest = items_from c kind (left - 1) (behind_at c at) in
    ap (λ k. initial_at (a ∷ unwrap_or (items_from c kind (left - 1) k) []) n) f
    ∙ ap (λ xs. initial_at xs n) (sym (behind_first a rest (sym (ap (λ k. is_some (items_from c kind (left - 1) k)) f) ∙ right)))
    ∙ ap (λ o. initial_at (unwrap_or (put_before o rest) []) n) e
    ∙ ap (λ o. initial_at (unwrap_or o []) n) (sym (items_more c kind left at more))
    ∙ none_of i (unwrap_or (items_from c kind left at) []) n r

-- an item is there where the list is right
pub is_there : (c : Call) (kind : LeafKind) (left at : ℕ) → 0 < left → None ≡ item_at c kind at → is_some (items_from c kind left at) ≡ true → ⊥
is_there c kind left at more e h =
    let f : false ≡ true = ap (λ o. is_some (put_before o (items_from c kind (left - 1) (behind_at c at)))) e ∙ sym (ap is_some (items_more c kind left at more)) ∙ h in
    cc

-- nothing is left
pub at_end : (c : Call) (kind : LeafKind) (left at : ℕ) (i : InitialItem) (n : ℕ) → i.repetition ≡ 0 → left ≡ 0 → InitialSkip ≡ initial_at (i ∷ unwrap_or (items_from c kind left at) []) n
at_end c kind left at i n r e =
    none_of i [] n r ∙ ap (λ k. initial_at (i ∷ unwrap_or (items_from c kind k at) []) n) (sym e)

-- one element on
pub one_less : (i : InitialItem) (is : List InitialItem) (n : ℕ) → 0 < i.repetition → initial_at (record { repetition = i.repetition - 1; value = i.value } ∷ is) n ≡ initial_at (i ∷ is) (n + 1)
one_less i is n h =
    let t : nat_lt n (i.repetition - 1) ≡ nat_lt (n + 1) i.repetition = grind (arith, nat_tests) in
    let d : n - (i.repetition - 1) ≡ n + 1 - i.repetition = omega arith in
    ap (λ (b : Bool). if b then i.value else initial_at is (n - (i.repetition - 1))) t
    ∙ ap (λ k. if nat_lt (n + 1) i.repetition then i.value else initial_at is k) d

pub first_value : (i : InitialItem) (is : List InitialItem) → 0 < i.repetition → i.value ≡ initial_at (i ∷ is) 0
first_value i is h =
    let t : true ≡ nat_lt 0 i.repetition = grind (arith, nat_tests) in
    ap (λ (b : Bool). if b then i.value else initial_at is (0 - i.repetition)) t
