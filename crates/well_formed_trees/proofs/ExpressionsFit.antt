-- References and expressions that break no rule come to what is sound.
use Rattle.std.proofs.Common.{◌≡◌, ℕ, suc, Bool, true, false, not, ◌&&◌, ◌||◌, List, [], ◌∷◌}
use Rattle.std.proofs.Common.{◌++◌, map, length, Option, Some, None, if◌then◌else◌, refl, sym, ap, ◌∙◌, subst}
use Rattle.std.specs.Prelude.{slice_get, is_some, nat_lt, ⊤}
use Rattle.std.specs.List.{list_any, flat_map}
use Rattle.std.proofs.lemmas.Bool.{eqb-true}
use Rattle.pli_language.specs.declared.expr.Place.{Place}
use Rattle.pli_language.specs.declared.token.Word.{Word}
use Rattle.pli_language.specs.declared.scope.Found.{Found}
use Rattle.pli_language.specs.declared.scope.Found.TheVariants as F
use Rattle.pli_language.specs.declared.scope.DeclarationAt.{DeclarationAt}
use Rattle.pli_language.specs.Tree as T
use Rattle.pli_language.specs.Declarations.{Held, Block, Declaration, What, Variable', Label, ProcedureName}
use Rattle.pli_language.specs.Declaring.{has, own_attributes, class_attributes, is_builtin}
use Rattle.pli_language.specs.Declaring.{attributes_clash, returns_are_bad, when}
use Rattle.pli_language.specs.Declaring.{option_faults, attribute_extent_faults, Returned, block_faults, own_dimensions}
use Rattle.pli_language.specs.Declaring.{has_members}
use Rattle.pli_language.specs.Means.{around_of, declarations_of, names_mean, means, all_but_last, last_of}
use Rattle.pli_typing.specs.TypedTree as Y
use Rattle.pli_typing.specs.Judging.{Scope, demand, broken}
use Rattle.pli_typing.specs.Variables.{what_at, what_of, all_dimensions, type_of}
use Rattle.pli_typing.specs.Calls.{procedure_called, result_type, type_returned, returns_in}
use Rattle.pli_typing.specs.Converting.{NotKnown, Operand, operand_value, pointer_operand, value_from}
use Rattle.pli_typing.specs.Operators.{prefixed, infixed}
use Rattle.pli_typing.specs.Builtins.{number_list, builtin_called}
use Rattle.pli_typing.specs.References.{Named, written_locator, locator_of, listed, all_operands, is_listed, is_empty}
use Rattle.pli_typing.specs.References.{listed_place, subscripts_fit, variable_referent, not_located, function_answer}
use Rattle.pli_typing.specs.References.{function_referent, procedure_referent, builtin_referent, what_referent}
use Rattle.pli_typing.specs.References.{is_builtin_name, found_referent, names_referent, operand_from, reference_from}
use Rattle.pli_typing.specs.References.{given, expression, reference, qualified, arguments, expressions}
use Rattle.well_formed_trees.specs.Every.{Every}
use Rattle.well_formed_trees.specs.Surroundings.{Where, procedure_numbered}
use Rattle.well_formed_trees.specs.References.{given_in}
use Rattle.well_formed_trees.specs.Expressions.{SoundLocator, SoundNumbers, SoundCall, Gives as IsGiving}
use Rattle.well_formed_trees.specs.Spelled.{IsNamed}
use Rattle.well_formed_trees.specs.Expressions as E
use Rattle.pli_language.specs.declared.fault.SourceKind.{SourceKind}
use Rattle.pli_language.specs.declared.fault.SourceKind.TheVariants.{BadAttributes, BadArguments, Undeclared}
use Rattle.pli_language.specs.Refusals.{fault}
use Rattle.well_formed_trees.specs.Spelled.{RangedExpr, RangedReference, RangedQualified, RangedArguments, RangedExprs}
use Rattle.well_formed_trees.proofs.Lists.{first_empty, second_empty, first_false, second_false}
use Rattle.well_formed_trees.proofs.Letters.{second_true}
use Rattle.well_formed_trees.proofs.Places.{same_some, every_at}
use Rattle.well_formed_trees.proofs.Parameters.{none_when, attributes_fine}
use Rattle.well_formed_trees.proofs.ResultTypes.{head_result}
use Rattle.well_formed_trees.proofs.FineVariables.{IsFineMember}
use Rattle.well_formed_trees.proofs.Facts.{Facts, IsSeen, IsVisible, InScope}
use Rattle.well_formed_trees.proofs.Found.{found_at}
use Rattle.well_formed_trees.proofs.DeclaredOnce.{IsIn}
use Rattle.well_formed_trees.proofs.MeantVariables.{DeclaresVariable, visible_from, fine_declared}
use Rattle.well_formed_trees.proofs.KindsSound.{kind_sound}
use Rattle.well_formed_trees.proofs.PartFit.{part_fit, AreSubscripts}
use Rattle.well_formed_trees.proofs.CalledProcedures.{IsCalled, is_called}
use Rattle.well_formed_trees.proofs.ArgumentsFit.{call_fit}
use Rattle.well_formed_trees.proofs.LocatorsFit.{locator_fit}
use Rattle.well_formed_trees.proofs.FitValues.{IsSoundType, SoundGiven, IsFit, operand_sound}
use Rattle.well_formed_trees.proofs.FitValues.{pointer_operand_sound}
use Rattle.well_formed_trees.proofs.FitOperators.{AllFit, digits_fit, prefixed_fit, infixed_fit, numbers_sound}
use Rattle.well_formed_trees.proofs.FitOperators.{builtin_fit}

-- ---- names with their arguments

abbrev AllNamed : Where → List Named → Type 0
AllNamed w ns = Every (λ n. AllFit w (listed n.arguments)) ns

both_fit : (w : Where) (xs ys : List Operand) → AllFit w xs → AllFit w ys → AllFit w (xs ++ ys)
both_fit w [] ys h k = k
both_fit w (x ∷ xs) ys h k = (h.0, both_fit w xs ys h.1 k)

operands_fit : (w : Where) (ns : List Named) → AllNamed w ns → AllFit w (all_operands ns)
operands_fit w [] h = tt
operands_fit w (n ∷ ns) h = both_fit w (listed n.arguments) (all_operands ns) h.0 (operands_fit w ns h.1)

no_operands : (ns : List Named) → list_any is_listed ns ≡ false → all_operands ns ≡ []
no_operands [] e = refl
no_operands (n ∷ ns) e =
    ap (λ l. l ++ all_operands ns) (none n.arguments (first_false (is_listed n) (list_any is_listed ns) e))
    ∙ no_operands ns (second_false (is_listed n) (list_any is_listed ns) e) where
      none : (o : Option (List Operand)) → is_some o ≡ false → listed o ≡ []
      none None e = refl
      none (Some xs) e = absurd (cc e)

as_many : (os : List Operand) → given_in (number_list os).value ≡ length os
as_many [] = refl
as_many (o ∷ os) = ap suc (as_many os)

subscripts_are : (h : Held) (ns : List Named) → subscripts_fit h ns ≡ true
    → AreSubscripts h (list_any is_listed ns) (number_list (all_operands ns)).value
subscripts_are h ns e = record {
  none = λ f. ap (λ os. (number_list os).value) (no_operands ns f);
  many = λ f. as_many (all_operands ns)
      ∙ eqb-true (length (all_operands ns)) (length (all_dimensions h))
      (second_true (not (list_any (λ n. is_empty n.arguments) ns)) _ (right (list_any is_listed ns) _ e f));
} where
  right : (a b : Bool) → (not a || b) ≡ true → a ≡ true → b ≡ true
  right true b e f = e
  right false b e f = absurd (cc f)

demanded : (b : Bool) (place : Place) (kind : SourceKind) → (demand b place kind).faults ≡ [] → b ≡ true
demanded true place kind e = refl
demanded false place kind e = absurd (cc e)

-- ---- variables

-- where a name is found: declared in a block that is around, and from which all around it is seen
pub record FoundHere (blocks : List Block) (w : Where) (at : DeclarationAt) : Type 0 where
  pub declaration : Declaration
  pub is_in : IsIn blocks at.block at.index declaration
  pub seen : IsSeen blocks w.around at.block
  pub see : IsVisible blocks w.around at.block
  pub there : what_at blocks at ≡ Some declaration.what

variable_fit : (blocks : List Block) (w : Where) → Facts blocks w.program w.table → (at : DeclarationAt)
    → (k : FoundHere blocks w at) → (h : Held) → k.declaration.what ≡ Variable' h → has 13 (own_attributes h) ≡ false
    → (place : Place) (located : Y.Locator) (ns : List Named) → SoundLocator w located → AllNamed w ns
    → (variable_referent blocks at.block h place located ns).faults ≡ []
    → IsFit w (variable_referent blocks at.block h place located ns).value
variable_fit blocks w facts at k h e n place located ns s a f =
    let declares : DeclaresVariable blocks at.block h = record {
      index = at.index;
      declaration = k.declaration;
      is_in = k.is_in;
      is = e;
      no_builtin = n;
    } in
    let l = (locator_of blocks at.block h (has 11 (class_attributes h)) place located).faults in
    let d = (demand (subscripts_fit h ns) (listed_place place ns) BadArguments).faults in
    let x = (number_list (all_operands ns)).faults in
    let more = second_empty l (d ++ (x ++ [])) f in
    let fit = locator_fit blocks w facts at.block h declares k.see place located s (first_empty l (d ++ (x ++ [])) f) in
    let many = demanded (subscripts_fit h ns) (listed_place place ns) BadArguments (first_empty d (x ++ []) more) in
    part_fit blocks w facts at.block h declares k.seen k.see
    (locator_of blocks at.block h (has 11 (class_attributes h)) place located).value (list_any is_listed ns)
    (number_list (all_operands ns)).value (record {
      located = fit.located;
      sound_locator = fit.sound;
      sound_subscripts =
          numbers_sound w (all_operands ns) (operands_fit w ns a) (first_empty x [] (second_empty d (x ++ []) more));
      are = subscripts_are h ns many;
    })

-- ---- functions

pub options_fine : (blocks : List Block) (w : Where) → Facts blocks w.program w.table → (holder : ℕ)
    → IsVisible blocks w.around holder → (labels : List T.Name) → IsNamed labels → (os : List T.ProcedureOption)
    → flat_map (option_faults labels) os ≡ [] → (t : Y.LeafType)
    → type_returned blocks holder (returns_in os) ≡ Some t → IsSoundType w t
options_fine blocks w facts holder see labels n [] e t f = absurd (cc f)
options_fine blocks w facts holder see labels n (T.Main ∷ os) e t f =
    options_fine blocks w facts holder see labels n os e t f
options_fine blocks w facts holder see labels n (T.Recursive ∷ os) e t f =
    options_fine blocks w facts holder see labels n os e t f
options_fine blocks w facts holder see [] n (T.Returns all ∷ os) e t f = absurd n
options_fine blocks w facts holder see (l ∷ ls) n (T.Returns all ∷ os) e t f =
    let own = when (returns_are_bad all) (fault l.place BadAttributes) in
    let extents = flat_map (attribute_extent_faults Returned) all in
    let bad = none_when (returns_are_bad all) (fault l.place BadAttributes)
    (first_empty own extents (first_empty (own ++ extents) (flat_map (option_faults (l ∷ ls)) os) e)) in
    let clash = first_false (attributes_clash all) _ (first_false _ _ (first_false _ _ bad)) in
    subst (IsSoundType w) (same_some (type_of blocks holder [] all) t f)
    (kind_sound blocks w facts holder [] all see clash)

pub given_by : (w : Where) (c : Y.Call) (P Q : Option Y.LeafType → Type 0) → ((o : Option Y.LeafType) → P o → Q o)
    → IsGiving P w c → IsGiving Q w c
given_by w (Y.Calling number level arguments) P Q f g = (g.0, g.1, f g.0.result g.2)

-- what a call of a function gives
answer_fit : (w : Where) (t : Y.LeafType) (c : Y.Call) → IsSoundType w t → IsGiving (λ o. o ≡ Some t) w c
    → SoundCall w c → IsFit w (value_from t c)
answer_fit w (Y.FixedLeaf p) c k g s = (k, (given_by w c _ _ (λ o e. subst E.GivesNumber (sym e) tt) g, s))
answer_fit w (Y.CharacterLeaf n) c k g s = (given_by w c _ _ (λ o e. subst E.GivesText (sym e) tt) g, s)
answer_fit w (Y.VaryingLeaf n) c k g s = (given_by w c _ _ (λ o e. subst E.GivesText (sym e) tt) g, s)
answer_fit w Y.BitLeaf c k g s = (g, s)
answer_fit w Y.PointerLeaf c k g s = (g, s)
answer_fit w (Y.OffsetLeaf area) c k g s = (k, (given_by w c _ _ (λ o e. subst E.GivesOffset (sym e) tt) g, s))
answer_fit w (Y.AreaLeaf n) c k g s = tt

call_gives : (blocks : List Block) (w : Where) (holder : ℕ) (head : T.ProcedureHead) (c : IsCalled blocks w holder head)
    (place : Place) (os : List Operand)
    → IsGiving (λ o. o ≡ result_type blocks holder head) w (procedure_called blocks holder head place os).value
call_gives blocks w holder head c place os =
    (c.p, ap (λ n. procedure_numbered n w.program.procedures) c.number_is ∙ c.is.found, c.result)

-- a procedure that is found is called so
pub record CallFits (blocks : List Block) (w : Where) (at : DeclarationAt) (head : T.ProcedureHead) (place : Place)
    (os : List Operand) : Type 0 where
  pub sound : SoundCall w (procedure_called blocks at.block head place os).value
  pub gives :
      IsGiving (λ o. o ≡ result_type blocks at.block head) w (procedure_called blocks at.block head place os).value

pub called_fit : (blocks : List Block) (w : Where) → Facts blocks w.program w.table → (at : DeclarationAt)
    → (k : FoundHere blocks w at) → (head : T.ProcedureHead) → k.declaration.what ≡ ProcedureName head
    → (place : Place) (os : List Operand) → AllFit w os → (procedure_called blocks at.block head place os).faults ≡ []
    → CallFits blocks w at head place os
called_fit blocks w facts at k head e place os a f =
    let c = is_called blocks w facts at.block at.index k.declaration head k.is_in e k.seen in
    let seen : Every (IsSeen blocks w.around) c.around = subst (Every (IsSeen blocks w.around))
    (ap around_of c.has_holder ∙ c.holder_around) k.see in
    record {
      sound = call_fit blocks w facts at.block head c seen place os a f;
      gives = call_gives blocks w at.block head c place os;
    }

pub function_fit : (blocks : List Block) (w : Where) → Facts blocks w.program w.table → (at : DeclarationAt)
    → (k : FoundHere blocks w at) → (head : T.ProcedureHead) → k.declaration.what ≡ ProcedureName head
    → (place : Place) (os : List Operand) → AllFit w os → (function_referent blocks at.block head place os).faults ≡ []
    → IsFit w (function_referent blocks at.block head place os).value
function_fit blocks w facts at k head e place os a f =
    let c = is_called blocks w facts at.block at.index k.declaration head k.is_in e k.seen in
    let call = procedure_called blocks at.block head place os in
    let seen : Every (IsSeen blocks w.around) c.around = subst (Every (IsSeen blocks w.around))
    (ap around_of c.has_holder ∙ c.holder_around) k.see in
    let sound = call_fit blocks w facts at.block head c seen place os a (first_empty call.faults [] f) in
    by (result_type blocks at.block head) refl (call_gives blocks w at.block head c place os) sound
    (result_sound c k.see) where
      result_sound : IsCalled blocks w at.block head → IsVisible blocks w.around at.block → (t : Y.LeafType)
          → result_type blocks at.block head ≡ Some t → IsSoundType w t
      result_sound c see t e =
          options_fine blocks w facts at.block see head.labels c.named head.options
          (head_result c.block head c.has_head
          (every_at (λ b. block_faults b ≡ []) blocks c.number c.block facts.fine c.has_block)) t e

      by : (o : Option Y.LeafType) → result_type blocks at.block head ≡ o
          → IsGiving (λ o. o ≡ result_type blocks at.block head) w (procedure_called blocks at.block head place
          os).value
          → SoundCall w (procedure_called blocks at.block head place os).value
          → ((t : Y.LeafType) → result_type blocks at.block head ≡ Some t → IsSoundType w t)
          → IsFit w (function_answer o (procedure_called blocks at.block head place os).value)
      by None e g s k = tt
      by (Some t) e g s k =
          answer_fit w t (procedure_called blocks at.block head place os).value (k t e)
          (given_by w (procedure_called blocks at.block head place os).value _ _ (λ o f. f ∙ e) g) s

-- ---- what names mean

plain_located : (place : Place) (located : Y.Locator) → (not_located place located).faults ≡ [] → ⊤
plain_located place located e = tt

builtin_word : (ps : List T.Name) (h : Held) → IsFineMember ps h → has 13 (own_attributes h) ≡ true
    → is_builtin h.variable.declared.name.word ≡ true
builtin_word ps h f t =
    let bad = attributes_fine ps f.earlier h f.after f.fine in
    let own = second_false _ _ (first_false _ _ (first_false _ _ (first_false _ _ (first_false _ _ bad)))) in
    by (has 13 (own_attributes h)) (has_members h f.after || nat_lt 0 (own_dimensions h))
    (is_builtin h.variable.declared.name.word) own t where
      by : (a b c : Bool) → (a && (b || not c)) ≡ false → a ≡ true → c ≡ true
      by true b true e f = refl
      by true true false e f = absurd (cc e)
      by true false false e f = absurd (cc e)
      by false b c e f = absurd (cc f)

builtin_referent_fit : (w : Where) (place : Place) (word : Word) (located : Y.Locator) (ns : List Named)
    → is_builtin word ≡ true → AllNamed w ns → (builtin_referent place word located ns).faults ≡ []
    → IsFit w (builtin_referent place word located ns).value
builtin_referent_fit w place word located ns b a f =
    builtin_fit w place word (all_operands ns) b (operands_fit w ns a)
    (second_empty (not_located place located).faults (builtin_called place word (all_operands ns)).faults f)

what_fit : (blocks : List Block) (w : Where) → Facts blocks w.program w.table → (at : DeclarationAt)
    → (k : FoundHere blocks w at) → (what : What) → k.declaration.what ≡ what → (place : Place) (located : Y.Locator)
    (ns : List Named) → SoundLocator w located → AllNamed w ns
    → (what_referent blocks at.block (Some what) place located ns).faults ≡ []
    → IsFit w (what_referent blocks at.block (Some what) place located ns).value
what_fit blocks w facts at k Label e place located ns s a f = tt
what_fit blocks w facts at k (ProcedureName head) e place located ns s a f =
    by (is_some (result_type blocks at.block head))
    (second_empty (not_located place located).faults
    (procedure_referent blocks at.block head (is_some (result_type blocks at.block head)) place
    (all_operands ns)).faults f) where
      by : (b : Bool) → (procedure_referent blocks at.block head b place (all_operands ns)).faults ≡ []
          → IsFit w (procedure_referent blocks at.block head b place (all_operands ns)).value
      by true f = function_fit blocks w facts at k head e place (all_operands ns) (operands_fit w ns a) f
      by false f = tt
what_fit blocks w facts at k (Variable' h) e place located ns s a f =
    by (has 13 (own_attributes h)) refl f where
      by : (b : Bool) → has 13 (own_attributes h) ≡ b
          → (if b then builtin_referent place h.variable.declared.name.word located ns
          else variable_referent blocks at.block h place located ns).faults ≡ []
          → IsFit w (if b then builtin_referent place h.variable.declared.name.word located ns
          else variable_referent blocks at.block h place located ns).value
      by true t f =
          let own = fine_declared blocks w.program w.table facts at.block at.index k.declaration h k.is_in e in
          builtin_referent_fit w place h.variable.declared.name.word located ns (builtin_word own.0 h own.1 t) a f
      by false t f = variable_fit blocks w facts at k h e t place located ns s a f

pub found_here : (scope : Scope) (w : Where) → InScope scope w → (qualifiers : List (List ℕ)) (last : List ℕ)
    (at : DeclarationAt) → means scope.blocks scope.block qualifiers last ≡ F.One at
    → FoundHere scope.blocks w at
found_here scope w i qualifiers last at e =
    let blocks = scope.blocks in
    let k = found_at blocks scope.block qualifiers last at e in
    let see : IsVisible blocks w.around scope.block =
    subst (λ o. Every (IsSeen blocks w.around) (around_of o)) (sym i.sees.has_own) i.sees.seen in
    let v = visible_from blocks w.program w.table i.facts w.around scope.block at.block see k.block_around in
    record {
      declaration = k.declaration;
      is_in = k.is_in;
      seen = v.1;
      see = v.0;
      there =
          ap (λ o. what_of (slice_get (declarations_of o) at.index)) k.is_in.has_block
          ∙ ap what_of k.is_in.has;
    }

found_fit : (scope : Scope) (w : Where) → InScope scope w → (n : Named) (ns : List Named) (located : Y.Locator)
    → (f : Found) → ((at : DeclarationAt) → f ≡ F.One at → FoundHere scope.blocks w at) → SoundLocator w located
    → AllNamed w (n ∷ ns) → (found_referent scope n.name f located (n ∷ ns)).faults ≡ []
    → IsFit w (found_referent scope n.name f located (n ∷ ns)).value
found_fit scope w i n ns located (F.One at) k s a f =
    let h = k at refl in
    subst (λ o. IsFit w (what_referent scope.blocks at.block o n.name.place located (n ∷ ns)).value) (sym h.there)
    (what_fit scope.blocks w i.facts at h h.declaration.what refl n.name.place located (n ∷ ns) s a
    (subst (λ o. (what_referent scope.blocks at.block o n.name.place located (n ∷ ns)).faults ≡ []) h.there f))
found_fit scope w i n ns located F.None k s a f = by (is_builtin_name (n ∷ ns)) refl f where
  builtin_one : (ns : List Named) → is_builtin_name (n ∷ ns) ≡ true → is_builtin n.name.word ≡ true
  builtin_one [] e = e
  builtin_one (m ∷ ns) e = absurd (cc e)

  by : (b : Bool) → is_builtin_name (n ∷ ns) ≡ b
      → (if b then builtin_referent n.name.place n.name.word located (n ∷ ns)
      else broken n.name.place Undeclared NotKnown).faults ≡ []
      → IsFit w (if b then builtin_referent n.name.place n.name.word located (n ∷ ns)
      else broken n.name.place Undeclared NotKnown).value
  by true e f = builtin_referent_fit w n.name.place n.name.word located (n ∷ ns) (builtin_one ns e) a f
  by false e f = absurd (cc f)
found_fit scope w i n ns located F.Ambiguous k s a f = absurd (cc f)

names_fit : (scope : Scope) (w : Where) → InScope scope w → (located : Y.Locator) (n : Named) (ns : List Named)
    → SoundLocator w located → AllNamed w (n ∷ ns) → (names_referent scope located (n ∷ ns)).faults ≡ []
    → IsFit w (names_referent scope located (n ∷ ns)).value
names_fit scope w i located n ns s a f =
    let ls = map (λ (m : Named). m.name.letters) ns in
    found_fit scope w i n ns located (names_mean scope.blocks scope.block (n.name.letters ∷ ls))
    (λ at e. found_here scope w i (all_but_last n.name.letters ls) (last_of n.name.letters ls) at e) s a f

-- ---- expressions

given_fit : (w : Where) (v : Option Y.Value) → SoundGiven w v → IsFit w (given v)
given_fit w None h = absurd h
given_fit w (Some v) h = h

-- names, of which there is one at least
abbrev SomeNamed : Where → List Named → Type 0
SomeNamed w [] = ⊥
SomeNamed w (n ∷ ns) = AllNamed w (n ∷ ns)

some_names_fit : (scope : Scope) (w : Where) → InScope scope w → (located : Y.Locator) (ns : List Named)
    → SoundLocator w located → SomeNamed w ns → (names_referent scope located ns).faults ≡ []
    → IsFit w (names_referent scope located ns).value
some_names_fit scope w i located [] s a f = absurd a
some_names_fit scope w i located (n ∷ ns) s a f = names_fit scope w i located n ns s a f

all_named : (w : Where) (ns : List Named) → SomeNamed w ns → AllNamed w ns
all_named w [] h = absurd h
all_named w (n ∷ ns) h = h

mutual
  unfolding expression reference qualified arguments expressions

  pub expression_fit : (scope : Scope) (w : Where) → InScope scope w → (e : T.Expr) → RangedExpr e
      → (expression scope e).faults ≡ [] → IsFit w (expression scope e).value
  expression_fit scope w i (T.Number n place) r f = (digits_fit, r)
  expression_fit scope w i (T.Text t place) r f = r
  expression_fit scope w i (T.Bit b place) r f = tt
  expression_fit scope w i (T.Parenthesized e place) r f =
      let j = (expression scope e).faults in
      let o = (operand_from e (expression scope e)).value in
      let v = (operand_value o).faults in
      given_fit w (operand_value o).value
      (operand_sound w o (expression_fit scope w i e r (first_empty j [] (first_empty (j ++ []) (v ++ []) f)))
      (first_empty v [] (second_empty (j ++ []) (v ++ []) f)))
  expression_fit scope w i (T.Prefix op e place) r f =
      let j = (expression scope e).faults in
      let o = (operand_from e (expression scope e)).value in
      let v = (prefixed op o).faults in
      prefixed_fit w op o (expression_fit scope w i e r (first_empty j [] (first_empty (j ++ []) v f)))
      (second_empty (j ++ []) v f)
  expression_fit scope w i (T.Infix op l e) r f =
      let j = (expression scope l).faults in
      let k = (expression scope e).faults in
      let a = (operand_from l (expression scope l)).value in
      let b = (operand_from e (expression scope e)).value in
      let v = (infixed op a b).faults in
      let more = second_empty (j ++ []) ((k ++ []) ++ v) f in
      infixed_fit w op a b
      (expression_fit scope w i l r.0 (first_empty j [] (first_empty (j ++ []) ((k ++ []) ++ v) f)))
      (expression_fit scope w i e r.1.0 (first_empty k [] (first_empty (k ++ []) v more)))
      (second_empty (k ++ []) v more)
  expression_fit scope w i (T.Refers q) r f = reference_fit scope w i q r f

  pub reference_fit : (scope : Scope) (w : Where) → InScope scope w → (e : T.Reference) → RangedReference e
      → (reference scope e).faults ≡ [] → IsFit w (reference scope e).value
  reference_fit scope w i (T.Plain q) r f =
      let a = (qualified scope q).faults in
      let v = (names_referent scope Y.NotLocated (qualified scope q).value).faults in
      some_names_fit scope w i Y.NotLocated (qualified scope q).value tt
      (qualified_fit scope w i q r (first_empty a v f)) (second_empty a v f)
  reference_fit scope w i (T.Located l q) r f =
      let j = (reference scope l).faults in
      let o = (reference_from l (reference scope l)).value in
      let p = (pointer_operand o).faults in
      let a = (qualified scope q).faults in
      let located = (written_locator o).value in
      let v = (names_referent scope located (qualified scope q).value).faults in
      let one = second_empty (j ++ []) ((p ++ []) ++ (a ++ v)) f in
      let two = second_empty (p ++ []) (a ++ v) one in
      some_names_fit scope w i located (qualified scope q).value
      (pointer_operand_sound w o
      (reference_fit scope w i l r.0 (first_empty j [] (first_empty (j ++ []) ((p ++ []) ++ (a ++ v)) f)))
      (first_empty p [] (first_empty (p ++ []) (a ++ v) one)))
      (qualified_fit scope w i q r.1 (first_empty a v two)) (second_empty a v two)

  qualified_fit : (scope : Scope) (w : Where) → InScope scope w → (q : T.Qualified) → RangedQualified q
      → (qualified scope q).faults ≡ [] → SomeNamed w (qualified scope q).value
  qualified_fit scope w i (T.Last n a) r f =
      (arguments_fit scope w i a r (first_empty (arguments scope a).faults [] f), tt)
  qualified_fit scope w i (T.Of n a q) r f =
      let x = (arguments scope a).faults in
      let y = (qualified scope q).faults in (
        arguments_fit scope w i a r.0 (first_empty x (y ++ []) f),
        all_named w (qualified scope q).value
            (qualified_fit scope w i q r.1 (first_empty y [] (second_empty x (y ++ []) f))),
      )

  pub arguments_fit : (scope : Scope) (w : Where) → InScope scope w → (a : T.Arguments) → RangedArguments a
      → (arguments scope a).faults ≡ [] → AllFit w (listed (arguments scope a).value)
  arguments_fit scope w i T.Absent r f = tt
  arguments_fit scope w i (T.Listed es) r f =
      expressions_fit scope w i es r (first_empty (expressions scope es).faults [] f)

  pub expressions_fit : (scope : Scope) (w : Where) → InScope scope w → (es : T.Exprs) → RangedExprs es
      → (expressions scope es).faults ≡ [] → AllFit w (expressions scope es).value
  expressions_fit scope w i T.NoExpr r f = tt
  expressions_fit scope w i (T.ExprThen e es) r f =
      let j = (expression scope e).faults in
      let k = (expressions scope es).faults in (
        expression_fit scope w i e r.0 (first_empty j [] (first_empty (j ++ []) (k ++ []) f)),
        expressions_fit scope w i es r.1 (first_empty k [] (second_empty (j ++ []) (k ++ []) f)),
      )
