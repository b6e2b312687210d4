-- Statements that break no rule are sound by themselves.
use Rattle.std.proofs.Common.{◌≡◌, ℕ, ◌+◌, Bool, true, false, List, [], ◌∷◌}
use Rattle.std.proofs.Common.{◌++◌, Option, Some, None, if◌then◌else◌, refl, sym, ap, ◌∙◌, subst, arith}
use Rattle.std.proofs.Common.{inl, inr}
use Rattle.std.specs.Prelude.{slice_get, is_some}
use Rattle.pli_language.specs.declared.expr.Place.{Place}
use Rattle.pli_language.specs.declared.scope.Found.{Found}
use Rattle.pli_language.specs.declared.scope.Found.TheVariants as F
use Rattle.pli_language.specs.declared.scope.DeclarationAt.{DeclarationAt}
use Rattle.pli_language.specs.declared.fault.SourceKind.TheVariants.{Undeclared}
use Rattle.pli_language.specs.Tree as T
use Rattle.pli_language.specs.Declarations.{Block, What, Variable', Label, ProcedureName}
use Rattle.pli_language.specs.Declaring.{is_builtin, block_faults}
use Rattle.pli_language.specs.Means.{around_of}
use Rattle.pli_typing.specs.TypedTree as Y
use Rattle.pli_typing.specs.Judging.{Judged, Scope, each, broken}
use Rattle.pli_typing.specs.Variables.{head_of_block, name_means}
use Rattle.pli_typing.specs.Calls.{procedure_called, result_type}
use Rattle.pli_typing.specs.Converting.{Operand}
use Rattle.pli_typing.specs.Converting.{operand_stored}
use Rattle.pli_typing.specs.References.{expression, reference, arguments, expressions, listed, operand, referred}
use Rattle.pli_typing.specs.Assigning.{Scalar, assignment, computational_operand, scalar_operand, counter_of, get_item}
use Rattle.pli_typing.specs.Assigning.{put_item, holds_fixed}
use Rattle.pli_typing.specs.Generations.{judged_if}
use Rattle.pli_typing.specs.SingleStatements.{Context, called_procedure, called_what, called_found, call_statement}
use Rattle.pli_typing.specs.SingleStatements.{not_called, first_or_none, result_or, result_around, returned}
use Rattle.pli_typing.specs.SingleStatements.{not_returned, return_statement, condition, number_at, Turns, OneTurn}
use Rattle.pli_typing.specs.SingleStatements.{CountedTurns, step_or_one, turns_of, turns_with, turns, get_of, put_of}
use Rattle.well_formed_trees.specs.Every.{Every}
use Rattle.well_formed_trees.specs.Surroundings.{Where, IsArea, IsAreaIf}
use Rattle.well_formed_trees.specs.Expressions.{SoundNumber, SoundBit, SoundReference, SoundStored}
use Rattle.well_formed_trees.specs.Expressions.{SoundComputational}
use Rattle.well_formed_trees.specs.Statements.{IsAssigned, SoundCounter, SoundNumberIf, SoundBitIf}
use Rattle.well_formed_trees.specs.Statements.{SoundGetItem, SoundPutItem}
use Rattle.well_formed_trees.specs.Spelled.{RangedExpr, RangedReference, RangedArguments, RangedIf}
use Rattle.well_formed_trees.specs.Spelled.{IsNamed}
use Rattle.well_formed_trees.specs.Spelled.{RangedCounting, RangedPair}
use Rattle.pli_language.specs.Formats.{Getting, Putting}
use Rattle.well_formed_trees.specs.SoundStatements.{IsSoundAlone}
use Rattle.well_formed_trees.proofs.Lists.{first_empty, second_empty, HoldsIf}
use Rattle.well_formed_trees.proofs.Places.{same_some, every_at}
use Rattle.well_formed_trees.proofs.ResultTypes.{head_result}
use Rattle.well_formed_trees.proofs.Facts.{Facts, IsSeen, IsVisible, InScope, Sees}
use Rattle.well_formed_trees.proofs.Found.{IsAmong}
use Rattle.well_formed_trees.proofs.HeadsHeld.{IsTyped, from_at}
use Rattle.well_formed_trees.proofs.MeantVariables.{visible_from}
use Rattle.well_formed_trees.proofs.CalledProcedures.{typed_by}
use Rattle.well_formed_trees.proofs.ExpressionsFit.{FoundHere, found_here, expression_fit, reference_fit, arguments_fit}
use Rattle.well_formed_trees.proofs.ExpressionsFit.{expressions_fit, options_fine, called_fit, given_by}
use Rattle.well_formed_trees.proofs.FitValues.{IsSoundType, IsFit, stored_type}
use Rattle.well_formed_trees.proofs.FitValues.{own_bit_operand_sound, number_operand_sound}
use Rattle.well_formed_trees.proofs.FitValues.{operand_stored_sound}
use Rattle.well_formed_trees.proofs.FitOperators.{AllFit}
use Rattle.well_formed_trees.proofs.AssignmentsFit.{assignment_fit, IsScalarVariable, IsScalarIf, scalar_operand_fit}
use Rattle.well_formed_trees.proofs.AssignmentsFit.{counter_fit, computational_operand_fit, get_fit, put_fit}

-- ---- operands of statements

pub operand_fit : (scope : Scope) (w : Where) → InScope scope w → (e : T.Expr) → RangedExpr e
    → (operand scope e).faults ≡ [] → IsFit w (operand scope e).value.referent
operand_fit scope w i e r f = expression_fit scope w i e r (first_empty (expression scope e).faults [] f)

pub referred_fit : (scope : Scope) (w : Where) → InScope scope w → (e : T.Reference) → RangedReference e
    → (referred scope e).faults ≡ [] → IsFit w (referred scope e).value.referent
referred_fit scope w i e r f = reference_fit scope w i e r (first_empty (reference scope e).faults [] f)

pub condition_fit : (scope : Scope) (w : Where) → InScope scope w → (e : T.Expr) → RangedExpr e
    → (condition scope e).faults ≡ [] → SoundBit w (condition scope e).value
condition_fit scope w i e r f =
    let o = operand scope e in
    own_bit_operand_sound w o.value (operand_fit scope w i e r (first_empty o.faults _ f)) (second_empty o.faults _ f)

number_fit : (scope : Scope) (w : Where) → InScope scope w → (e : T.Expr) → RangedExpr e
    → (number_at scope e).faults ≡ [] → SoundNumber w (number_at scope e).value
number_fit scope w i e r f =
    let o = operand scope e in
    number_operand_sound w o.value (operand_fit scope w i e r (first_empty o.faults _ f)) (second_empty o.faults _ f)

-- what is judged where it is written
pub judged_holds : {X Z : Type 0} (P : Z → Type 0) (Q : X → Type 0) (judge : X → Judged Z)
    → ((x : X) → Q x → (judge x).faults ≡ [] → P (judge x).value) → (o : Option X) → RangedIf Q o
    → (judged_if judge o).faults ≡ [] → HoldsIf P (judged_if judge o).value
judged_holds P Q judge k None r f = tt
judged_holds P Q judge k (Some x) r f = k x r (first_empty (judge x).faults [] f)

numbers_if : (w : Where) (o : Option Y.Number) → HoldsIf (SoundNumber w) o → SoundNumberIf w o
numbers_if w None h = tt
numbers_if w (Some n) h = h

bits_if : (w : Where) (o : Option Y.Bit) → HoldsIf (SoundBit w) o → SoundBitIf w o
bits_if w None h = tt
bits_if w (Some n) h = h

pub areas_if : (w : Where) (o : Option Y.Variable) → HoldsIf (IsArea w) o → IsAreaIf w o
areas_if w None h = tt
areas_if w (Some v) h = h

-- ---- DO

abbrev pub SoundTurns : Where → Turns → Type 0
SoundTurns w (OneTurn r s b) = (IsAssigned w r s × (SoundReference w r × SoundStored w s)) × SoundBitIf w b
SoundTurns w (CountedTurns counter start limit step b) =
    (SoundCounter w counter × (SoundComputational w start × (SoundNumberIf w limit × SoundNumber w step)))
    × SoundBitIf w b

step_sound : (w : Where) (o : Option Y.Number) → HoldsIf (SoundNumber w) o → SoundNumber w (step_or_one o)
step_sound w None h = omega arith
step_sound w (Some n) h = h

counted_fit : (w : Where) (place : Place) (v : Scalar) (start : Operand) (limit step : Option Y.Number)
    (b : Option Y.Bit) → IsScalarVariable w v → IsFit w start.referent → HoldsIf (SoundNumber w) limit
    → HoldsIf (SoundNumber w) step → HoldsIf (SoundBit w) b
    → ((counter_of place v.reference v.type).faults ++ ((computational_operand start).faults ++ [])) ≡ []
    → SoundTurns w (CountedTurns (counter_of place v.reference v.type).value (computational_operand start).value limit
    (step_or_one step) b)
counted_fit w place v start limit step b s h l k c f =
    let x = (counter_of place v.reference v.type).faults in
    let y = (computational_operand start).faults in (
      (
        counter_fit w place v.reference v.type s.scalar s.sound (first_empty x (y ++ []) f),
        (
          computational_operand_fit w start h (first_empty y [] (second_empty x (y ++ []) f)),
          (numbers_if w limit l, step_sound w step k),
        ),
      ),
      bits_if w b c,
    )

turns_of_fit : (w : Where) (place : Place) (v : Scalar) (start : Operand) (limit step : Option Y.Number)
    (b : Option Y.Bit) → IsScalarVariable w v → IsFit w start.referent → HoldsIf (SoundNumber w) limit
    → HoldsIf (SoundNumber w) step → HoldsIf (SoundBit w) b → (turns_of place v start limit step b).faults ≡ []
    → SoundTurns w (turns_of place v start limit step b).value
turns_of_fit w place v start None None b s h l k c f =
    let x = operand_stored_sound w v.type start (stored_type w v.type s.sound_type) h
    (first_empty (operand_stored v.type start).faults [] f) in
    ((record { type = v.type; scalar = s.scalar; fits = x.0 }, (s.sound, x.1)), bits_if w b c)
turns_of_fit w place v start (Some n) step b s h l k c f = counted_fit w place v start (Some n) step b s h l k c f
turns_of_fit w place v start None (Some n) b s h l k c f = counted_fit w place v start None (Some n) b s h l k c f

turns_with_fit : (w : Where) (place : Place) (v : Option Scalar) (start : Operand) (limit step : Option Y.Number)
    (b : Option Y.Bit) → IsScalarIf w v → IsFit w start.referent → HoldsIf (SoundNumber w) limit
    → HoldsIf (SoundNumber w) step → HoldsIf (SoundBit w) b → (turns_with place v start limit step b).faults ≡ []
    → SoundTurns w (turns_with place v start limit step b).value
turns_with_fit w place None start limit step b s h l k c f = absurd s
turns_with_fit w place (Some v) start limit step b s h l k c f =
    turns_of_fit w place v start limit step b s h l k c f

pub turns_fit : (scope : Scope) (w : Where) → InScope scope w → (c : T.Counting) → RangedCounting c
    → (turns scope c).faults ≡ [] → SoundTurns w (turns scope c).value
turns_fit scope w i c r f =
    let o = referred scope c.variable in
    let v = scalar_operand o.value in
    let s = operand scope c.start in
    let l = judged_if (number_at scope) c.limit in
    let k = judged_if (number_at scope) c.step in
    let b = judged_if (condition scope) c.condition in
    let t = turns_with o.value.place v.value s.value l.value k.value b.value in
    let f1 = second_empty o.faults (v.faults ++ (s.faults ++ (l.faults ++ (k.faults ++ (b.faults ++ t.faults))))) f in
    let f2 = second_empty v.faults (s.faults ++ (l.faults ++ (k.faults ++ (b.faults ++ t.faults)))) f1 in
    let f3 = second_empty s.faults (l.faults ++ (k.faults ++ (b.faults ++ t.faults))) f2 in
    let f4 = second_empty l.faults (k.faults ++ (b.faults ++ t.faults)) f3 in
    let f5 = second_empty k.faults (b.faults ++ t.faults) f4 in
    turns_with_fit w o.value.place v.value s.value l.value k.value b.value
    (scalar_operand_fit w o.value (referred_fit scope w i c.variable r.0.0 (first_empty o.faults _ f))
    (first_empty v.faults _ f1)) (operand_fit scope w i c.start r.0.1 (first_empty s.faults _ f2))
    (judged_holds (SoundNumber w) RangedExpr (number_at scope) (number_fit scope w i) c.limit r.1.0
    (first_empty l.faults _ f3))
    (judged_holds (SoundNumber w) RangedExpr (number_at scope) (number_fit scope w i) c.step r.1.1.0
    (first_empty k.faults _ f4))
    (judged_holds (SoundBit w) RangedExpr (condition scope) (condition_fit scope w i) c.condition r.1.1.1
    (first_empty b.faults _ f5)) (second_empty b.faults t.faults f5)

-- ---- assignment, GET and PUT

pub assign_fit : (scope : Scope) (w : Where) → InScope scope w → (t : T.Reference) (e : T.Expr) (place : Place)
    → RangedReference t → RangedExpr e
    → ((referred scope t).faults ++ ((operand scope e).faults
    ++ (assignment place (referred scope t).value (operand scope e).value).faults)) ≡ []
    → IsSoundAlone w (assignment place (referred scope t).value (operand scope e).value).value
assign_fit scope w i t e place r s f =
    let x = referred scope t in
    let y = operand scope e in
    let z = assignment place x.value y.value in
    let more = second_empty x.faults (y.faults ++ z.faults) f in
    assignment_fit w place x.value y.value
    (referred_fit scope w i t r (first_empty x.faults (y.faults ++ z.faults) f))
    (operand_fit scope w i e s (first_empty y.faults z.faults more)) (second_empty y.faults z.faults more)

pub each_holds : {X Z : Type 0} (P : Z → Type 0) (Q : X → Type 0) (judge : X → Judged Z)
    → ((x : X) → Q x → (judge x).faults ≡ [] → P (judge x).value) → (xs : List X) → Every Q xs
    → (each judge xs).faults ≡ [] → Every P (each judge xs).value
each_holds P Q judge k [] r f = tt
each_holds P Q judge k (x ∷ xs) r f =
    let a = (judge x).faults in
    let b = (each judge xs).faults in (
      k x r.0 (first_empty a (b ++ []) f),
      each_holds P Q judge k xs r.1 (first_empty b [] (second_empty a (b ++ []) f)),
    )

pub gets_fit : (scope : Scope) (w : Where) → InScope scope w → (ps : List T.EditPair) → Every (RangedPair Getting) ps
    → (each (get_of scope) ps).faults ≡ []
    → Every (λ p. Every (SoundGetItem w (holds_fixed p.formats)) p.items) (each (get_of scope) ps).value
gets_fit scope w i ps r f =
    each_holds (λ (p : Y.GetPair). Every (SoundGetItem w (holds_fixed p.formats)) p.items) (RangedPair Getting)
    (get_of scope) pair ps r f where
      pair : (p : T.EditPair) → RangedPair Getting p → (get_of scope p).faults ≡ []
          → Every (SoundGetItem w (holds_fixed p.formats)) (get_of scope p).value.items
      pair p r f =
          let os = expressions scope p.items in
          let gs = each (get_item (holds_fixed p.formats)) os.value in
          each_holds (SoundGetItem w (holds_fixed p.formats)) (λ (o : Operand). IsFit w o.referent)
          (get_item (holds_fixed p.formats)) (get_fit w (holds_fixed p.formats)) os.value
          (expressions_fit scope w i p.items r.0 (first_empty os.faults (gs.faults ++ []) f))
          (first_empty gs.faults [] (second_empty os.faults (gs.faults ++ []) f))

pub puts_fit : (scope : Scope) (w : Where) → InScope scope w → (ps : List T.EditPair) → Every (RangedPair Putting) ps
    → (each (put_of scope) ps).faults ≡ []
    → Every (λ p. Every (SoundPutItem w) p.items) (each (put_of scope) ps).value
puts_fit scope w i ps r f =
    each_holds (λ (p : Y.PutPair). Every (SoundPutItem w) p.items) (RangedPair Putting) (put_of scope) pair ps r f where
      pair : (p : T.EditPair) → RangedPair Putting p → (put_of scope p).faults ≡ []
          → Every (SoundPutItem w) (put_of scope p).value.items
      pair p r f =
          let os = expressions scope p.items in
          let gs = each put_item os.value in
          each_holds (SoundPutItem w) (λ (o : Operand). IsFit w o.referent) put_item (put_fit w) os.value
          (expressions_fit scope w i p.items r.0 (first_empty os.faults (gs.faults ++ []) f))
          (first_empty gs.faults [] (second_empty os.faults (gs.faults ++ []) f))

-- ---- CALL

what_called : (blocks : List Block) (w : Where) → Facts blocks w.program w.table → (at : DeclarationAt)
    → (k : FoundHere blocks w at) → (what : What) → k.declaration.what ≡ what → (name : T.Name) (place : Place)
    (os : List Operand) → AllFit w os → (called_what blocks at.block (Some what) name place os).faults ≡ []
    → IsSoundAlone w (called_what blocks at.block (Some what) name place os).value
what_called blocks w facts at k Label e name place os a f = absurd (cc f)
what_called blocks w facts at k (Variable' h) e name place os a f = absurd (cc f)
what_called blocks w facts at k (ProcedureName head) e name place os a f =
    by (result_type blocks at.block head) refl f where
      by : (o : Option Y.LeafType) → result_type blocks at.block head ≡ o
          → (if is_some o then not_called place else called_procedure blocks at.block head name place os).faults ≡ []
          → IsSoundAlone w
          (if is_some o then not_called place else called_procedure blocks at.block head name place os).value
      by (Some t) r f = absurd (cc f)
      by None r f =
          let call = procedure_called blocks at.block head name.place os in
          let c = called_fit blocks w facts at k head e name.place os a (first_empty call.faults [] f) in
          (given_by w call.value _ _ (λ o g. g ∙ r) c.gives, c.sound)

pub call_statement_fit : (scope : Scope) (w : Where) → InScope scope w → (name : T.Name) (a : T.Arguments)
    (place : Place) → RangedArguments a → (call_statement scope name a place).faults ≡ []
    → IsSoundAlone w (call_statement scope name a place).value
call_statement_fit scope w i name a place r f =
    let os = arguments scope a in
    by (name_means scope.blocks scope.block name) refl (second_empty os.faults _ f)
    (arguments_fit scope w i a r (first_empty os.faults _ f)) where
      by : (x : Found) → name_means scope.blocks scope.block name ≡ x
          → (called_found scope.blocks x name place (listed (arguments scope a).value)).faults ≡ []
          → AllFit w (listed (arguments scope a).value)
          → IsSoundAlone w (called_found scope.blocks x name place (listed (arguments scope a).value)).value
      by (F.One at) e f k =
          let h = found_here scope w i [] name.letters at e in
          let os = listed (arguments scope a).value in
          subst (λ o. IsSoundAlone w (called_what scope.blocks at.block o name place os).value) (sym h.there)
          (what_called scope.blocks w i.facts at h h.declaration.what refl name place os k
          (subst (λ o. (called_what scope.blocks at.block o name place os).faults ≡ []) h.there f))
      by F.None e f k = which (is_builtin name.word) f where
        which : (b : Bool)
            → (if b then not_called place else broken name.place Undeclared (Y.Null place.line)).faults ≡ []
            → IsSoundAlone w
            (if b then not_called place else broken name.place Undeclared (Y.Null place.line)).value
        which true f = absurd (cc f)
        which false f = absurd (cc f)
      by F.Ambiguous e f k = absurd (cc f)

-- ---- RETURN

around_result : (blocks : List Block) (w : Where) → Facts blocks w.program w.table → (ns : List ℕ)
    → Every (IsVisible blocks w.around) ns → (t : Y.LeafType) → result_around blocks ns ≡ Some t → IsSoundType w t
around_result blocks w facts [] v t e = absurd (cc e)
around_result blocks w facts (b ∷ bs) v t e =
    by (slice_get blocks b) refl e (around_result blocks w facts bs v.1 t) where
      holder : (bs : List ℕ) → Every (IsVisible blocks w.around) bs → IsVisible blocks w.around (first_or_none bs)
      holder [] v =
          subst (λ o. Every (IsSeen blocks w.around) (around_of o)) (sym facts.first) (inl refl, tt)
      holder (h ∷ bs) v = v.0

      own : (block : Block) (head : T.ProcedureHead) → slice_get blocks b ≡ Some block → block.head ≡ Some head
          → result_type blocks (first_or_none bs) head ≡ Some t → IsSoundType w t
      own block head f h e =
          let z : 0 + b ≡ b = omega arith in
          let typed : IsTyped w.program.procedures b block.head = subst (λ n. IsTyped w.program.procedures n
          block.head) z
          (from_at (λ n (b : Block). IsTyped w.program.procedures n b.head) 0 blocks b block facts.typed f) in
          let p = typed_by blocks b w.program.procedures facts.procedures
          (subst (IsTyped w.program.procedures b) h typed) in
          let from = p.from in
          let number = sym from.own ∙ p.own in
          let same : from.block ≡ block = same_some from.block block
          (sym from.found ∙ (ap (slice_get blocks) number ∙ f)) in
          let heads : from.head ≡ head = same_some from.head head
          (sym from.has_head ∙ (ap (λ (b : Block). b.head) same ∙ h)) in
          options_fine blocks w facts (first_or_none bs) (holder bs v.1) head.labels
          (subst (λ (h : T.ProcedureHead). IsNamed h.labels) heads from.named) head.options
          (head_result block head h (every_at (λ b. block_faults b ≡ []) blocks b block facts.fine f)) t e

      by : (o : Option Block) → slice_get blocks b ≡ o
          → result_or blocks bs (head_of_block o) (result_around blocks bs) ≡ Some t
          → (result_around blocks bs ≡ Some t → IsSoundType w t) → IsSoundType w t
      by None f e k = k e
      by (Some block) f e k = heads block.head refl e where
        heads : (o : Option T.ProcedureHead) → block.head ≡ o
            → result_or blocks bs o (result_around blocks bs) ≡ Some t → IsSoundType w t
        heads None h e = k e
        heads (Some head) h e = own block head f h e

all_visible : (c : Context) (w : Where) → Sees c w → Every (IsVisible c.scope.blocks w.around) c.around
all_visible c w s =
    let blocks = c.scope.blocks in
    let facts = s.scope.facts in
    let see : IsVisible blocks w.around c.scope.block = subst (Every (IsSeen blocks w.around)) (sym s.own_around)
    s.around in
    all c.around (λ m i. (visible_from blocks w.program w.table facts w.around c.scope.block m see
    (subst (IsAmong m) (sym s.own_around) i)).0) where
      all : (ns : List ℕ) → ((m : ℕ) → IsAmong m ns → IsVisible c.scope.blocks w.around m)
          → Every (IsVisible c.scope.blocks w.around) ns
      all [] f = tt
      all (n ∷ ns) f = (f n (inl refl), all ns (λ m i. f m (inr i)))

pub return_fit : (c : Context) (w : Where) → Sees c w → (v : Option T.Expr) (place : Place) → RangedIf RangedExpr v
    → (return_statement c v place).faults ≡ [] → IsSoundAlone w (return_statement c v place).value
return_fit c w s None place r f = plain (result_around c.scope.blocks c.around) where
  plain : (t : Option Y.LeafType) → IsSoundAlone w (not_returned place t).value
  plain None = tt
  plain (Some t) = tt
return_fit c w s (Some e) place r f =
    let o = operand c.scope e in
    by (result_around c.scope.blocks c.around) (around_result c.scope.blocks w s.scope.facts c.around (all_visible c w
    s))
    (operand_fit c.scope w s.scope e r (first_empty o.faults _ f)) (second_empty o.faults _ f) where
      by : (t : Option Y.LeafType) → ((x : Y.LeafType) → t ≡ Some x → IsSoundType w x)
          → IsFit w (operand c.scope e).value.referent → (returned place t (operand c.scope e).value).faults ≡ []
          → IsSoundAlone w (returned place t (operand c.scope e).value).value
      by None k h f = absurd (cc f)
      by (Some t) k h f =
          operand_stored_sound w t (operand c.scope e).value (stored_type w t (k t refl)) h
          (first_empty (operand_stored t (operand c.scope e).value).faults [] f)
