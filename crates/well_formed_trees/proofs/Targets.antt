-- The label that a GOTO of an accepted source names stands in a list around it.
use Rattle.std.proofs.Common.{◌≡◌, ℕ, Bool, true, false, ◌||◌, List, [], ◌∷◌, ◌++◌, Option, Some, None, refl, sym}
use Rattle.std.proofs.Common.{ap, ◌∙◌, subst, if◌then◌else◌}
use Rattle.std.specs.Prelude.{slice_get, ⊤}
use Rattle.std.specs.List.{list_any}
use Rattle.pli_language.specs.declared.expr.Place.{Place}
use Rattle.pli_language.specs.declared.scope.Found.{Found}
use Rattle.pli_language.specs.declared.scope.Found.TheVariants as F
use Rattle.pli_language.specs.declared.scope.DeclarationAt.{DeclarationAt}
use Rattle.pli_language.specs.Tree as T
use Rattle.pli_language.specs.Declarations.{Block, Declaration, What, Variable', Label, ProcedureName}
use Rattle.pli_language.specs.Declaring.{same_place}
use Rattle.pli_language.specs.Means.{declarations_of, around_of}
use Rattle.pli_typing.specs.TypedTree as Y
use Rattle.pli_typing.specs.Variables.{level_of_block, declarations_at, name_means}
use Rattle.pli_typing.specs.SingleStatements.{Context, jump, jump_found, is_target_at, is_target, label_declared}
use Rattle.pli_typing.specs.SingleStatements.{label_what, call_statement, called_found, called_what}
use Rattle.pli_typing.specs.SingleStatements.{called_procedure, not_called, return_statement, returned, not_returned}
use Rattle.pli_typing.specs.SingleStatements.{result_around, assign_statement, Turns, OneTurn, CountedTurns}
use Rattle.pli_typing.specs.SingleStatements.{do_statement, turns, in_list, labels_in}
use Rattle.pli_typing.specs.Judging.{Judged, fine, broken}
use Rattle.pli_typing.specs.Variables.{what_at}
use Rattle.pli_typing.specs.Converting.{Designated, Referent, Designates, Gives, GivesUnknown, GivesEmptyArea}
use Rattle.pli_typing.specs.Converting.{GivesNothing, NotKnown, Operand, scalar_type, element_type, is_area}
use Rattle.pli_typing.specs.Converting.{is_aggregate, variable_of, operand_value}
use Rattle.pli_typing.specs.References.{operand, referred, arguments, listed}
use Rattle.pli_typing.specs.Assigning.{assigned_to, assigned_aggregate, assigned_each, assigned_elements}
use Rattle.pli_typing.specs.Assigning.{assigned_matching, assigned_area, assigned_referent, leaves_match}
use Rattle.pli_language.specs.Declaring.{is_builtin}
use Rattle.pli_typing.specs.Resolving.{statement, statements}
use Rattle.well_formed_trees.proofs.AcceptedFacts.{facts_kept}
use Rattle.well_formed_trees.specs.Every.{Every}
use Rattle.well_formed_trees.specs.Surroundings.{Around, Where, IsTarget}
use Rattle.well_formed_trees.specs.Everywhere.{GoesAround, AcceptedTargets}
use Rattle.well_formed_trees.proofs.DeclaredOnce.{same_declaration}
use Rattle.well_formed_trees.proofs.Facts.{IsReached, Sees}
use Rattle.well_formed_trees.proofs.Found.{FoundAt, found_at}
use Rattle.well_formed_trees.proofs.HeadsInRange.{ranges_kept}
use Rattle.well_formed_trees.proofs.Shapes.{shape_kept}
use Rattle.well_formed_trees.proofs.GroupsBare.{groups_kept}
use Rattle.well_formed_trees.proofs.StatementWalk.{IsOwn, holds_everywhere}

-- one of the labels is at the place
record Named (blocks : List Block) (around : List Around) (place : Place) : Type 0 where
  name : T.Name
  reached : IsReached blocks around name
  same : same_place name.place place ≡ true

named : (blocks : List Block) (around : List Around) (place : Place) (ns : List T.Name)
    → Every (IsReached blocks around) ns → list_any (λ n. same_place n.place place) ns ≡ true
    → Named blocks around place
named blocks around place [] h e = absurd (cc e)
named blocks around place (n ∷ ns) h e = by (same_place n.place place) refl e (named blocks around place ns h.1) where
  by : (b : Bool) → same_place n.place place ≡ b → (b || list_any (λ n. same_place n.place place) ns) ≡ true
      → (list_any (λ n. same_place n.place place) ns ≡ true → Named blocks around place) → Named blocks around place
  by true s e k = record { name = n; reached = h.0; same = s }
  by false s e k = k e

-- what is declared is a label at a place that is one of them
record IsLabelTarget (c : Context) (d : Declaration) : Type 0 where
  label : d.what ≡ Label
  target : is_target c d.name.place ≡ true

label_target : (c : Context) (name : T.Name) (w : What)
    → is_target_at c (label_what name.place w) ≡ true → IsLabelTarget c (record { name = name; what = w })
label_target c name Label e = record { label = refl; target = e }
label_target c name (Variable' h) e = absurd (cc e)
label_target c name (ProcedureName head) e = absurd (cc e)

goes : (c : Context) (w : Where) → Sees c w → (label : T.Name) (place : Place) (at : DeclarationAt)
    → FoundAt c.scope.blocks (around_of (slice_get c.scope.blocks c.scope.block)) label.letters at → (b : Bool)
    → is_target_at c (label_declared (slice_get (declarations_at c.scope.blocks at.block) at.index)) ≡ b
    → (jump c label place at.block b).faults ≡ [] → GoesAround w (jump c label place at.block b).value
goes c w sees label place at found false e f = absurd (cc f)
goes c w sees label place at found true e f =
    let blocks = c.scope.blocks in
    let d = found.declaration in
    let there : slice_get (declarations_at blocks at.block) at.index ≡ Some d =
    ap (λ o. slice_get (declarations_of o) at.index) found.is_in.has_block ∙ found.is_in.has in
    let t = label_target c d.name d.what (ap (λ o. is_target_at c (label_declared o)) (sym there) ∙ e) in
    let n = named blocks w.around d.name.place ((c.inner ++ c.outermost) ++ c.outer) sees.labels t.target in
    let same = same_declaration blocks sees.scope.facts.apart n.reached.number at.block n.reached.index at.index
    (record { name = n.name; what = Label }) d n.reached.is_in found.is_in n.same in
    let name : n.name ≡ d.name = ap (λ (x : Declaration). x.name) same.1 in
    let letters : n.name.letters ≡ label.letters = ap (λ (x : T.Name). x.letters) name ∙ sym found.letters in
    subst (λ level. IsTarget level label.letters w.around) (ap (level_of_block blocks) same.0)
    (subst (λ l. IsTarget (level_of_block blocks n.reached.number) l w.around) letters n.reached.target)

goes_found : (c : Context) (w : Where) → Sees c w → (label : T.Name) (place : Place) (f : Found)
    → name_means c.scope.blocks c.scope.block label ≡ f → (jump_found c label place f).faults ≡ []
    → GoesAround w (jump_found c label place f).value
goes_found c w sees label place (F.One at) e f =
    goes c w sees label place at (found_at c.scope.blocks c.scope.block [] label.letters at e) _ refl f
goes_found c w sees label place F.None e f = absurd (cc f)
goes_found c w sees label place F.Ambiguous e f = absurd (cc f)

-- no other statement is a GOTO
abbrev IsNoGoto : Y.Stmt → Type 0
IsNoGoto (Y.Goto level label line) = ⊥
IsNoGoto _ = ⊤

goes_nowhere : (w : Where) (s : Y.Stmt) → IsNoGoto s → GoesAround w s
goes_nowhere w (Y.Goto level label line) h = absurd h
goes_nowhere w _ h = tt

-- ---- statements that are no GOTO

either : (b : Bool) (j k : Judged Y.Stmt) → IsNoGoto j.value → IsNoGoto k.value → IsNoGoto (if b then j else k).value
either true j k h l = h
either false j k h l = l

no_elements : (place : Place) (r : Y.Reference) (t : Option Y.LeafType) (from : Place) (v : Option Y.Value)
    → IsNoGoto (assigned_elements place r t from v).value
no_elements place r t from None = tt
no_elements place r None from (Some v) = tt
no_elements place r (Some t) from (Some v) = tt

no_each : (place : Place) (d : Designated) (o : Operand) → IsNoGoto (assigned_each place d o).value
no_each place d o = no_elements place d.reference (element_type d) o.place (operand_value o).value

no_matching : (place : Place) (d f : Designated) → IsNoGoto (assigned_matching place d f).value
no_matching place d f =
    either (leaves_match d.leaves f.leaves) (fine (Y.AssignAggregate d.reference f.reference place.line))
    (broken place _ (Y.Null place.line)) tt tt

no_aggregate : (place : Place) (d : Designated) (o : Operand) (r : Referent)
    → IsNoGoto (assigned_aggregate place d o r).value
no_aggregate place d o (Designates f) =
    either (is_aggregate f) (assigned_matching place d f) (assigned_each place d o) (no_matching place d f)
    (no_each place d o)
no_aggregate place d o (Gives v) = no_each place d o
no_aggregate place d o GivesUnknown = no_each place d o
no_aggregate place d o GivesEmptyArea = no_each place d o
no_aggregate place d o GivesNothing = no_each place d o
no_aggregate place d o NotKnown = no_each place d o

no_area : (place : Place) (v : Y.Variable) (from : Place) (r : Referent)
    → IsNoGoto (assigned_area place v from r).value
no_area place v from (Designates d) =
    either (is_area d) (fine (Y.AssignArea v (variable_of d.reference) place.line))
    (broken from _ (Y.Null place.line)) tt tt
no_area place v from (Gives x) = tt
no_area place v from GivesUnknown = tt
no_area place v from GivesEmptyArea = tt
no_area place v from GivesNothing = tt
no_area place v from NotKnown = tt

no_to : (place : Place) (d : Designated) (t : Option Y.LeafType) (o : Operand) → IsNoGoto (assigned_to place d t
    o).value
no_to place d None o = no_aggregate place d o o.referent
no_to place d (Some (Y.AreaLeaf n)) o = no_area place (variable_of d.reference) o.place o.referent
no_to place d (Some (Y.FixedLeaf p)) o = tt
no_to place d (Some (Y.CharacterLeaf n)) o = tt
no_to place d (Some (Y.VaryingLeaf n)) o = tt
no_to place d (Some Y.BitLeaf) o = tt
no_to place d (Some Y.PointerLeaf) o = tt
no_to place d (Some (Y.OffsetLeaf a)) o = tt

no_assignment : (place target : Place) (r : Referent) (o : Operand)
    → IsNoGoto (assigned_referent place target r o).value
no_assignment place target (Designates d) o = no_to place d (scalar_type d) o
no_assignment place target (Gives v) o = tt
no_assignment place target GivesUnknown o = tt
no_assignment place target GivesEmptyArea o = tt
no_assignment place target GivesNothing o = tt
no_assignment place target NotKnown o = tt

no_what : (blocks : List Block) (b : ℕ) (w : Option What) (name : T.Name) (place : Place) (os : List Operand)
    → IsNoGoto (called_what blocks b w name place os).value
no_what blocks b None name place os = tt
no_what blocks b (Some (Variable' h)) name place os = tt
no_what blocks b (Some Label) name place os = tt
no_what blocks b (Some (ProcedureName head)) name place os =
    either _ (not_called place) (called_procedure blocks b head name place os) tt tt

no_call : (blocks : List Block) (f : Found) (name : T.Name) (place : Place) (os : List Operand)
    → IsNoGoto (called_found blocks f name place os).value
no_call blocks (F.One at) name place os = no_what blocks at.block (what_at blocks at) name place os
no_call blocks F.None name place os =
    either (is_builtin name.word) (not_called place) (broken name.place _ (Y.Null place.line)) tt tt
no_call blocks F.Ambiguous name place os = tt

no_plain_return : (place : Place) (t : Option Y.LeafType) → IsNoGoto (not_returned place t).value
no_plain_return place None = tt
no_plain_return place (Some t) = tt

no_value_return : (place : Place) (t : Option Y.LeafType) (o : Operand) → IsNoGoto (returned place t o).value
no_value_return place None o = tt
no_value_return place (Some t) o = tt

no_return : (c : Context) (e : Option T.Expr) (place : Place) → IsNoGoto (return_statement c e place).value
no_return c None place = no_plain_return place (result_around c.scope.blocks c.around)
no_return c (Some e) place = no_value_return place (result_around c.scope.blocks c.around) (operand c.scope e).value

no_turns : (t : Turns) (body : Y.Stmts) (line : ℕ) → IsNoGoto (do_statement t body line)
no_turns (OneTurn r s b) body line = tt
no_turns (CountedTurns counter s limit step b) body line = tt

-- ---- all

pub targets_own : IsOwn GoesAround
unfolding statement
targets_own c w sees b u may next (T.Goto label place) f =
    goes_found c w sees label place (name_means c.scope.blocks c.scope.block label) refl f.1
targets_own c w sees b u may next (T.Assign target source place) f =
    let t = (referred c.scope target).value in
    goes_nowhere w (assign_statement c.scope target source place).value
    (no_assignment place t.place t.referent (operand c.scope source).value)
targets_own c w sees b u may next (T.Call name x place) f =
    goes_nowhere w (call_statement c.scope name x place).value
    (no_call c.scope.blocks (name_means c.scope.blocks c.scope.block name) name place
    (listed (arguments c.scope x).value))
targets_own c w sees b u may next (T.Return value place) f =
    goes_nowhere w (return_statement c value place).value (no_return c value place)
targets_own c w sees b u may next (T.DoCount counting body place) f =
    let r = (statements (in_list c (labels_in body)) next body).value in
    goes_nowhere w (do_statement (turns c.scope counting).value r place.line)
    (no_turns (turns c.scope counting).value r place.line)
targets_own c w sees b u may next _ f = tt

pub accepted_targets : AcceptedTargets
accepted_targets s tokens tree t h declared typed =
    holds_everywhere GoesAround targets_own tree (shape_kept s tokens tree h) (groups_kept s tokens tree h)
    (ranges_kept s tokens tree t h) typed (facts_kept s tokens tree t h declared typed)
