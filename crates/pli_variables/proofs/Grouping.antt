-- The steps of the loops that walk declarations and members.
use Rattle.std.proofs.Common.{◌≡◌, Bool, true, false, List, [], ◌∷◌, ◌++◌, map, Option, Some, None, refl, sym, ap, ◌∙◌, append_assoc, append-nil}
use Rattle.std.specs.Prelude.{if◌then◌else◌, not, ◌&&◌}
use Rattle.pli_language.specs.declared.expr.Place.{Place}
use Rattle.std.proofs.lemmas.List.{drop_all, map-append}
use Rattle.pli_declare.proofs.Chains.{drop_here}
use Rattle.pli_language.specs.Declarations.{Held, What, Variable', Label, ProcedureName}
use Rattle.pli_language.specs.Declaring.{has, own_attributes, stands_alone, is_deeper}
use Rattle.pli_typing.specs.Variables.{member_then, variable_then, leaves_in, is_at, from_place, while_deeper}
use Rattle.pli_variables.specs.Held.{member_in, root_in, is_leaf, leaf_first}

abbrev with_rest : Option Held → List Held → List Held
with_rest None rest = []
with_rest (Some h) rest = h ∷ rest

member_then_is : (w : What) (rest : List Held) → member_then w rest ≡ with_rest (member_in w) rest
member_then_is (Variable' h) rest = go (stands_alone h)
  where
    go : (t : Bool) → (if t then [] else h ∷ rest) ≡ with_rest (if t then None else Some h) rest
    go true = refl
    go false = refl
member_then_is Label rest = refl
member_then_is (ProcedureName head) rest = refl

-- one member more, and the others behind it
pub member_on : (w : What) (ds : List Held) (h : Held) → Some h ≡ member_in w → member_then w ds ≡ h ∷ ds
member_on w ds h e = member_then_is w ds ∙ ap (λ o. with_rest o ds) (sym e)

pub member_none : (w : What) (ds : List Held) → None ≡ member_in w → member_then w ds ≡ []
member_none w ds e = member_then_is w ds ∙ ap (λ o. with_rest o ds) (sym e)

abbrev with_variable : Option Held → List Held → List (List Held)
with_variable None members = []
with_variable (Some h) members = (h ∷ members) ∷ []

variable_then_is : (w : What) (members : List Held) → variable_then w members [] ≡ with_variable (root_in w) members
variable_then_is (Variable' h) members = go (stands_alone h && not (has 13 (own_attributes h)))
  where
    go : (t : Bool) → (if t then (h ∷ members) ∷ [] else []) ≡ with_variable (if t then Some h else None) members
    go true = refl
    go false = refl
variable_then_is Label members = refl
variable_then_is (ProcedureName head) members = refl

pub variable_on : (w : What) (members : List Held) (h : Held) → Some h ≡ root_in w → variable_then w members [] ≡ (h ∷ members) ∷ []
variable_on w members h e = variable_then_is w members ∙ ap (λ o. with_variable o members) (sym e)

pub variable_none : (w : What) (members : List Held) → None ≡ root_in w → variable_then w members [] ≡ []
variable_none w members e = variable_then_is w members ∙ ap (λ o. with_variable o members) (sym e)

-- the variable before the others
pub variable_before : (w : What) (members : List Held) (rest : List (List Held)) → variable_then w members rest ≡ variable_then w members [] ++ rest
variable_before (Variable' h) members rest = go (stands_alone h && not (has 13 (own_attributes h)))
  where
    go : (t : Bool) → (if t then (h ∷ members) ∷ rest else rest) ≡ (if t then (h ∷ members) ∷ [] else []) ++ rest
    go true = refl
    go false = refl
variable_before Label members rest = refl
variable_before (ProcedureName head) members rest = refl

pub ruleset groups = (drop_here, drop_all, append_assoc, append-nil, map-append, member_on, member_none, variable_on, variable_none, variable_before)

-- ---- members of a variable

pub leaves_on : (a : Held) (rest : List Held) → leaves_in (a ∷ rest) ≡ (if is_leaf a rest then a ∷ leaves_in rest else leaves_in rest)
leaves_on a [] = refl
leaves_on a (b ∷ all) = go (is_deeper a b)
  where
    go : (t : Bool) → (if t then leaves_in (b ∷ all) else a ∷ leaves_in (b ∷ all)) ≡ (if not t then a ∷ leaves_in (b ∷ all) else leaves_in (b ∷ all))
    go true = refl
    go false = refl

pub leaves_before : (a : Held) (rest : List Held) → leaves_in (a ∷ rest) ≡ leaf_first a rest ++ leaves_in rest
leaves_before a rest = leaves_on a rest ∙ go (is_leaf a rest)
  where
    go : (t : Bool) → (if t then a ∷ leaves_in rest else leaves_in rest) ≡ (if t then a ∷ [] else []) ++ leaves_in rest
    go true = refl
    go false = refl

pub from_on : (place : Place) (a : Held) (rest : List Held) → from_place place (a ∷ rest) ≡ (if is_at place a then a ∷ rest else from_place place rest)
from_on place a rest = refl

pub deeper_on : (h a : Held) (rest : List Held) → while_deeper h (a ∷ rest) ≡ (if is_deeper h a then a ∷ while_deeper h rest else [])
deeper_on h a rest = refl

pub ruleset leaves = (drop_here, drop_all, append_assoc, append-nil, map-append, leaves_on, from_on, deeper_on)

pub ruleset leaves_put = (drop_here, drop_all, append_assoc, append-nil, map-append, leaves_before)
