-- Signatures are looked for and copied one by one.
use Rattle.std.proofs.Common.{◌≡◌, ℕ, suc, ◌+◌, ◌<◌, ◌≤◌, List, [], ◌∷◌, ◌++◌, length, map, drop, get_or, Bool, true, false, cond, Some, None, eqb, ◌≢◌, refl, ap, ap₂, sym, ◌∙◌, arith}
use Rattle.std.specs.Prelude.{nat_lt}
use Rattle.std.proofs.lemmas.Bool.Decides.{nat_tests}
use Rattle.std.proofs.lemmas.List.{at_drop_more, drop_all, append-nil, map-append}
use Rattle.pli_types.specs.declared.signature.Leaf.{Leaf}
use Rattle.pli_types.specs.declared.signature.Signature.{Signature}
use Rattle.pli_types.specs.View.{leaf_of, template_of}
use Rattle.pli_types.specs.Templates as O
use Rattle.pli_serving.specs.SignatureService.{same_template, number_from, number_of}
use Rattle.pli_serving.specs.Arguments.{own_signature}
use Rattle.pli_signatures.specs.Numbering.{number_kept, kept_with}
use Rattle.pli_signatures.specs.Whole.{is_known}
use Rattle.pli_signatures.proofs.Lists.{one_more}

one_place : (list : List Signature) (i : ℕ) (t : O.Template) (x : Signature) → i < length list
    → number_from i t (map template_of (drop i list)) ≡ cond (same_template (template_of (get_or list i x)) t) i (number_from (suc i) t (map template_of (drop (i + 1) list)))
one_place list i t x inside = at_drop_more (λ (l : List Signature). number_from i t (map template_of l)) list i x inside

pub found_here : (list : List Signature) (i : ℕ) (t : O.Template) (x : Signature) (whole : ℕ) → i < length list → x ≡ get_or list i x
    → true ≡ same_template (template_of x) t → number_from i t (map template_of (drop i list)) ≡ whole → i ≡ whole
found_here list i t x whole inside e same so_far =
    ap (λ b. cond b i (number_from (suc i) t (map template_of (drop (i + 1) list)))) (same ∙ ap (λ g. same_template (template_of g) t) e)
    ∙ sym (one_place list i t x inside)
    ∙ so_far

pub not_here : (list : List Signature) (i : ℕ) (t : O.Template) (x : Signature) (whole : ℕ) → i < length list → x ≡ get_or list i x
    → false ≡ same_template (template_of x) t → number_from i t (map template_of (drop i list)) ≡ whole → number_from (i + 1) t (map template_of (drop (i + 1) list)) ≡ whole
not_here list i t x whole inside e other so_far =
    let next : i + 1 ≡ suc i = omega arith in
    ap (λ n. number_from n t (map template_of (drop (i + 1) list))) next
    ∙ ap (λ b. cond b i (number_from (suc i) t (map template_of (drop (i + 1) list)))) (other ∙ ap (λ g. same_template (template_of g) t) e)
    ∙ sym (one_place list i t x inside)
    ∙ so_far

from_none : (place : ℕ) (t : O.Template) (list : List Signature) (i : ℕ) → length list ≤ i → number_from place t (map template_of (drop i list)) ≡ place
from_none place t list i out = ap (λ (l : List Signature). number_from place t (map template_of l)) (drop_all i list out)

pub found_nowhere : (list : List Signature) (i : ℕ) (t : O.Template) (whole : ℕ) → i ≡ length list → number_from i t (map template_of (drop i list)) ≡ whole → length list ≡ whole
found_nowhere list i t whole e so_far = sym e ∙ sym (from_none i t list i (omega (arith, e))) ∙ so_far

-- ---- copies

pub leaf_copied : (leaves : List Leaf) (i : ℕ) (items : List Leaf) (x y : Leaf) → i < length leaves → x ≡ get_or leaves i x → leaf_of y ≡ leaf_of x
    → map leaf_of items ++ map leaf_of (drop i leaves) ≡ map leaf_of leaves → map leaf_of (items ++ y ∷ []) ++ map leaf_of (drop (i + 1) leaves) ≡ map leaf_of leaves
leaf_copied leaves i items x y inside e same so_far =
    one_more leaf_of items y (leaf_of (get_or leaves i x)) (map leaf_of (drop (i + 1) leaves)) (map leaf_of leaves) (same ∙ ap leaf_of e)
    (sym (at_drop_more (λ (l : List Leaf). map leaf_of items ++ map leaf_of l) leaves i x inside) ∙ so_far)

pub leaves_copied : (leaves : List Leaf) (i : ℕ) (items : List Leaf) → length leaves ≤ i
    → map leaf_of items ++ map leaf_of (drop i leaves) ≡ map leaf_of leaves → map leaf_of items ≡ map leaf_of leaves
leaves_copied leaves i items out so_far =
    sym (append-nil (map leaf_of items)) ∙ ap (λ (l : List Leaf). map leaf_of items ++ map leaf_of l) (sym (drop_all i leaves out)) ∙ so_far

-- ---- numbers

-- behind the last, one more is kept
pub kept_behind : (t : O.Template) (ts : List O.Template) → number_of t ts ≡ length ts → number_of t ts < own_signature → kept_with t ts ≡ ts ++ t ∷ []
kept_behind t ts e few =
    let fits : nat_lt (number_of t ts) own_signature ≡ true = grind (arith, nat_tests) in
    let last : eqb (number_of t ts) (length ts) ≡ true = grind (arith, nat_tests) in
    rw (fits, last) refl

pub kept_there : (t : O.Template) (ts : List O.Template) → number_of t ts ≢ length ts → kept_with t ts ≡ ts
kept_there t ts e = go (nat_lt (number_of t ts) own_signature) (eqb (number_of t ts) (length ts)) refl
  where
    go : (a b : Bool) → eqb (number_of t ts) (length ts) ≡ b → cond a (cond b (ts ++ t ∷ []) ts) ts ≡ ts
    go true true h = absurd (e (grind (arith, nat_tests)))
    go true false h = refl
    go false b h = refl

pub too_many : (t : O.Template) (ts : List O.Template) → own_signature ≤ number_of t ts → (number_kept t ts ≡ None) × (kept_with t ts ≡ ts)
too_many t ts many =
    let full : nat_lt (number_of t ts) own_signature ≡ false = grind (arith, nat_tests) in
    (rw full refl, rw full refl)

pub number_given : (t : O.Template) (ts : List O.Template) → number_of t ts < own_signature → number_kept t ts ≡ Some (number_of t ts)
number_given t ts few =
    let fits : nat_lt (number_of t ts) own_signature ≡ true = grind (arith, nat_tests) in
    rw fits refl

-- ---- which are whole

pub one_more_known : (old new : List Signature) (x : Signature) (wholes more : List Bool) (whole : Bool) → wholes ≡ map is_known (map template_of old) → whole ≡ is_known (template_of x) → new ≡ old ++ x ∷ [] → more ≡ wholes ++ whole ∷ []
    → more ≡ map is_known (map template_of new)
one_more_known old new x wholes more whole h k e f =
    f
    ∙ ap₂ (λ bs b. bs ++ b ∷ []) h k
    ∙ sym (map-append is_known (map template_of old) (template_of x ∷ []))
    ∙ ap (map is_known) (sym (map-append template_of old (x ∷ [])))
    ∙ ap (λ l. map is_known (map template_of l)) (sym e)
