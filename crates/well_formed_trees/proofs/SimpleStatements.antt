-- Statements that are judged come to statements that hold none.
use Rattle.std.proofs.Common.{◌≡◌, refl, ℕ, Bool, true, false, List, Option, Some, None, if◌then◌else◌}
use Rattle.std.specs.Prelude.{⊤}
use Rattle.pli_language.specs.declared.expr.Place.{Place}
use Rattle.pli_language.specs.declared.scope.Found.{Found}
use Rattle.pli_language.specs.declared.scope.Found.TheVariants as F
use Rattle.pli_language.specs.Tree as T
use Rattle.pli_language.specs.Declarations.{What, Variable', Label, ProcedureName, Block}
use Rattle.pli_language.specs.Declaring.{is_builtin}
use Rattle.pli_typing.specs.TypedTree as Y
use Rattle.pli_typing.specs.Judging.{Judged, Scope, fine, broken}
use Rattle.pli_typing.specs.Variables.{name_means, what_at}
use Rattle.pli_typing.specs.Converting.{Designated, Referent, Designates, Gives, GivesUnknown, GivesEmptyArea}
use Rattle.pli_typing.specs.Converting.{GivesNothing, NotKnown, Operand, scalar_type, element_type, is_area}
use Rattle.pli_typing.specs.Converting.{is_aggregate, variable_of, operand_value}
use Rattle.pli_typing.specs.References.{operand, referred, arguments, listed}
use Rattle.pli_typing.specs.Assigning.{assigned_to, assigned_aggregate, assigned_each, assigned_elements}
use Rattle.pli_typing.specs.Assigning.{assigned_matching, assigned_area, assigned_referent, leaves_match}
use Rattle.pli_typing.specs.SingleStatements.{Context, goto_statement, jump_found, jump, call_statement, called_found}
use Rattle.pli_typing.specs.SingleStatements.{called_what, called_procedure, not_called, return_statement, returned}
use Rattle.pli_typing.specs.SingleStatements.{not_returned, result_around, assign_statement}

-- what holds no statement
abbrev pub IsSimple : Y.Stmt → Type 0
IsSimple (Y.If condition unit line) = ⊥
IsSimple (Y.IfElse condition unit otherwise line) = ⊥
IsSimple (Y.Do body line) = ⊥
IsSimple (Y.DoWhile condition body line) = ⊥
IsSimple (Y.DoOnce target start condition body line) = ⊥
IsSimple (Y.DoCount counter start limit step condition body line) = ⊥
IsSimple (Y.Begin block) = ⊥
IsSimple (Y.OnUnit condition block line) = ⊥
IsSimple _ = ⊤

-- what holds no statement, is no RETURN, and has this line
abbrev pub HasLine : ℕ → Y.Stmt → Type 0
HasLine n (Y.Null line) = line ≡ n
HasLine n (Y.Assign target source line) = line ≡ n
HasLine n (Y.AssignElements target source line) = line ≡ n
HasLine n (Y.AssignAggregate target source line) = line ≡ n
HasLine n (Y.AssignArea target source line) = line ≡ n
HasLine n (Y.EmptyArea target line) = line ≡ n
HasLine n (Y.CallProcedure c line) = line ≡ n
HasLine n (Y.Goto level label line) = line ≡ n
HasLine n _ = ⊥

is_simple : (n : ℕ) (s : Y.Stmt) → HasLine n s → IsSimple s
is_simple n (Y.Null line) h = tt
is_simple n (Y.Assign target source line) h = tt
is_simple n (Y.AssignElements target source line) h = tt
is_simple n (Y.AssignAggregate target source line) h = tt
is_simple n (Y.AssignArea target source line) h = tt
is_simple n (Y.EmptyArea target line) h = tt
is_simple n (Y.CallProcedure c line) h = tt
is_simple n (Y.Goto level label line) h = tt
is_simple n _ h = absurd h

either : (line : ℕ) (b : Bool) (j k : Judged Y.Stmt) → HasLine line j.value → HasLine line k.value
    → HasLine line (if b then j else k).value
either line true j k h l = h
either line false j k h l = l

-- ---- assignments

elements_line : (place : Place) (r : Y.Reference) (t : Option Y.LeafType) (from : Place) (v : Option Y.Value)
    → HasLine place.line (assigned_elements place r t from v).value
elements_line place r t from None = refl
elements_line place r None from (Some v) = refl
elements_line place r (Some t) from (Some v) = refl

each_line : (place : Place) (d : Designated) (o : Operand) → HasLine place.line (assigned_each place d o).value
each_line place d o = elements_line place d.reference (element_type d) o.place (operand_value o).value

matching_line : (place : Place) (d f : Designated) → HasLine place.line (assigned_matching place d f).value
matching_line place d f =
    either place.line (leaves_match d.leaves f.leaves) (fine (Y.AssignAggregate d.reference f.reference place.line))
    (broken place _ (Y.Null place.line)) refl refl

aggregate_line : (place : Place) (d : Designated) (o : Operand) (r : Referent)
    → HasLine place.line (assigned_aggregate place d o r).value
aggregate_line place d o (Designates f) =
    either place.line (is_aggregate f) (assigned_matching place d f) (assigned_each place d o) (matching_line place d f)
    (each_line place d o)
aggregate_line place d o (Gives v) = each_line place d o
aggregate_line place d o GivesUnknown = each_line place d o
aggregate_line place d o GivesEmptyArea = each_line place d o
aggregate_line place d o GivesNothing = each_line place d o
aggregate_line place d o NotKnown = each_line place d o

area_line : (place : Place) (v : Y.Variable) (from : Place) (r : Referent)
    → HasLine place.line (assigned_area place v from r).value
area_line place v from (Designates d) =
    either place.line (is_area d) (fine (Y.AssignArea v (variable_of d.reference) place.line))
    (broken from _ (Y.Null place.line)) refl refl
area_line place v from (Gives x) = refl
area_line place v from GivesUnknown = refl
area_line place v from GivesEmptyArea = refl
area_line place v from GivesNothing = refl
area_line place v from NotKnown = refl

to_line : (place : Place) (d : Designated) (t : Option Y.LeafType) (o : Operand)
    → HasLine place.line (assigned_to place d t o).value
to_line place d None o = aggregate_line place d o o.referent
to_line place d (Some (Y.AreaLeaf n)) o = area_line place (variable_of d.reference) o.place o.referent
to_line place d (Some (Y.FixedLeaf p)) o = refl
to_line place d (Some (Y.CharacterLeaf n)) o = refl
to_line place d (Some (Y.VaryingLeaf n)) o = refl
to_line place d (Some Y.BitLeaf) o = refl
to_line place d (Some Y.PointerLeaf) o = refl
to_line place d (Some (Y.OffsetLeaf a)) o = refl

referent_line : (place target : Place) (r : Referent) (o : Operand)
    → HasLine place.line (assigned_referent place target r o).value
referent_line place target (Designates d) o = to_line place d (scalar_type d) o
referent_line place target (Gives v) o = refl
referent_line place target GivesUnknown o = refl
referent_line place target GivesEmptyArea o = refl
referent_line place target GivesNothing o = refl
referent_line place target NotKnown o = refl

pub assign_line : (scope : Scope) (r : T.Reference) (e : T.Expr) (place : Place)
    → HasLine place.line (assign_statement scope r e place).value
assign_line scope r e place =
    let t = (referred scope r).value in
    referent_line place t.place t.referent (operand scope e).value

-- ---- CALL

what_line : (blocks : List Block) (b : ℕ) (w : Option What) (name : T.Name) (place : Place) (os : List Operand)
    → HasLine place.line (called_what blocks b w name place os).value
what_line blocks b None name place os = refl
what_line blocks b (Some (Variable' h)) name place os = refl
what_line blocks b (Some Label) name place os = refl
what_line blocks b (Some (ProcedureName head)) name place os =
    either place.line _ (not_called place) (called_procedure blocks b head name place os) refl refl

found_line : (blocks : List Block) (f : Found) (name : T.Name) (place : Place) (os : List Operand)
    → HasLine place.line (called_found blocks f name place os).value
found_line blocks (F.One at) name place os = what_line blocks at.block (what_at blocks at) name place os
found_line blocks F.None name place os =
    either place.line (is_builtin name.word) (not_called place) (broken name.place _ (Y.Null place.line)) refl refl
found_line blocks F.Ambiguous name place os = refl

pub call_line : (scope : Scope) (name : T.Name) (a : T.Arguments) (place : Place)
    → HasLine place.line (call_statement scope name a place).value
call_line scope name a place =
    found_line scope.blocks (name_means scope.blocks scope.block name) name place (listed (arguments scope a).value)

-- ---- RETURN

not_returned_simple : (place : Place) (t : Option Y.LeafType) → IsSimple (not_returned place t).value
not_returned_simple place None = tt
not_returned_simple place (Some t) = tt

returned_simple : (place : Place) (t : Option Y.LeafType) (o : Operand) → IsSimple (returned place t o).value
returned_simple place None o = tt
returned_simple place (Some t) o = tt

pub return_simple : (c : Context) (e : Option T.Expr) (place : Place) → IsSimple (return_statement c e place).value
return_simple c None place = not_returned_simple place (result_around c.scope.blocks c.around)
return_simple c (Some e) place = returned_simple place (result_around c.scope.blocks c.around) (operand c.scope e).value

-- ---- GOTO

jump_line : (c : Context) (name : T.Name) (place : Place) (block : ℕ) (b : Bool)
    → HasLine place.line (jump c name place block b).value
jump_line c name place block true = refl
jump_line c name place block false = refl

jump_found_line : (c : Context) (name : T.Name) (place : Place) (f : Found)
    → HasLine place.line (jump_found c name place f).value
jump_found_line c name place (F.One at) = jump_line c name place at.block _
jump_found_line c name place F.None = refl
jump_found_line c name place F.Ambiguous = refl

pub goto_line : (c : Context) (name : T.Name) (place : Place) → HasLine place.line (goto_statement c name place).value
goto_line c name place = jump_found_line c name place (name_means c.scope.blocks c.scope.block name)

-- ---- so they hold no statement

pub assign_simple : (scope : Scope) (r : T.Reference) (e : T.Expr) (place : Place)
    → IsSimple (assign_statement scope r e place).value
assign_simple scope r e place =
    is_simple place.line (assign_statement scope r e place).value (assign_line scope r e place)

pub call_simple : (scope : Scope) (name : T.Name) (a : T.Arguments) (place : Place)
    → IsSimple (call_statement scope name a place).value
call_simple scope name a place =
    is_simple place.line (call_statement scope name a place).value (call_line scope name a place)

pub goto_simple : (c : Context) (name : T.Name) (place : Place) → IsSimple (goto_statement c name place).value
goto_simple c name place = is_simple place.line (goto_statement c name place).value (goto_line c name place)
