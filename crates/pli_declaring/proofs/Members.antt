-- The leaves of a structure, one by one.
use Rattle.std.proofs.Common.{◌≡◌, Bool, true, false, List, ℕ, [], ◌∷◌, filter, refl, sym, ap, ◌∙◌}
use Rattle.std.specs.Prelude.{if◌then◌else◌, not, ◌&&◌}
use Rattle.std.proofs.lemmas.List.{drop_all}
use Rattle.pli_declare.proofs.Chains.{drop_here}
use Rattle.pli_language.specs.Tree.{Refer}
use Rattle.pli_language.specs.Declarations.{Held}
use Rattle.pli_language.specs.Declaring.{is_deeper, is_scalar_number, leaves_before, is_only_number, keeps_extent}
use Rattle.pli_declaring.specs.declared.refer.Kept.{Kept}
use Rattle.pli_declaring.specs.declared.refer.Kept.TheVariants as K
use Rattle.pli_declaring.specs.Members.{first_held, kept_further, keeping, of_name, answer}

keeping_other : (ms : List Held) → keeping K.Other ms ≡ false
keeping_other [] = refl
keeping_other (m ∷ ms) = keeping_other ms

one_kept : (t : Bool) → t ≡ keeping (kept_further K.Nothing t) []
one_kept true = refl
one_kept false = refl

two_kept : (t : Bool) (s : Bool) (ms : List Held) → false ≡ keeping (kept_further (kept_further K.Nothing t) s) ms
two_kept true s ms = sym (keeping_other ms)
two_kept false s ms = sym (keeping_other ms)

-- the definition's answer, leaf by leaf
pub only_number_is : (ms : List Held) → is_only_number ms ≡ keeping K.Nothing ms
only_number_is [] = refl
only_number_is (m ∷ []) = one_kept (is_scalar_number m)
only_number_is (m ∷ n ∷ ms) = two_kept (is_scalar_number m) (is_scalar_number n) ms

pub leaves_on : (a : Held) (rest : List Held) (h : Held) → leaves_before (a ∷ rest) h ≡ (if is_deeper a (first_held rest h) then leaves_before rest h else a ∷ leaves_before rest h)
leaves_on a [] h = refl
leaves_on a (b ∷ all) h = refl

at_tests : (kept : Kept) (a : Held) (p : Held → Bool) (ls : List Held) (deeper same : Bool) → p a ≡ same → keeping kept (filter p (if deeper then ls else a ∷ ls)) ≡ keeping (if not deeper && same then kept_further kept (is_scalar_number a) else kept) (filter p ls)
at_tests kept a p ls true same e = refl
at_tests kept a p ls false true e = ap (λ (t : Bool). keeping kept (if t then a ∷ filter p ls else filter p ls)) e
at_tests kept a p ls false false e = ap (λ (t : Bool). keeping kept (if t then a ∷ filter p ls else filter p ls)) e

pub answer_on : (kept : Kept) (letters : List ℕ) (a : Held) (rest : List Held) (h : Held) → answer kept letters (a ∷ rest) h ≡ answer (if not (is_deeper a (first_held rest h)) && of_name letters a then kept_further kept (is_scalar_number a) else kept) letters rest h
answer_on kept letters a rest h =
    ap (λ ls. keeping kept (filter (of_name letters) ls)) (leaves_on a rest h)
    ∙ at_tests kept a (of_name letters) (leaves_before rest h) (is_deeper a (first_held rest h)) (of_name letters a) refl

pub keeps_is : (earlier : List Held) (h : Held) (refer : Refer) → keeps_extent earlier h refer ≡ answer K.Nothing refer.member.letters earlier h
keeps_is earlier h refer = only_number_is (filter (of_name refer.member.letters) (leaves_before earlier h))

-- a loop over declarations
pub ruleset firsts = (drop_here, drop_all)

pub ruleset members = (drop_here, drop_all, answer_on, keeps_is)
