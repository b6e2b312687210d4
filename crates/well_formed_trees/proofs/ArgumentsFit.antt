-- Arguments that break no rule are taken by the parameters of the procedure that is called.
use Rattle.std.proofs.Common.{◌≡◌, ℕ, ◌==◌, Bool, true, false, ◌&&◌, List, [], ◌∷◌, ◌++◌}
use Rattle.std.proofs.Common.{map, length, Option, Some, None, if◌then◌else◌, refl, sym, ap, ◌∙◌, subst, inl, inr}
use Rattle.std.specs.Prelude.{slice_get, take}
use Rattle.std.specs.List.{list_any}
use Rattle.std.proofs.lemmas.Bool.{eqb-true, eq-eqb}
use Rattle.pli_language.specs.declared.expr.Place.{Place}
use Rattle.pli_language.specs.Keywords.{same_bytes}
use Rattle.pli_language.specs.Tree as T
use Rattle.pli_language.specs.Declarations.{Block, Variable, level_of}
use Rattle.pli_language.specs.Declaring.{has, root_of, first_or, is_parameter, names_of, block_faults}
use Rattle.pli_language.specs.Means.{around_of}
use Rattle.pli_typing.specs.TypedTree as Y
use Rattle.pli_typing.specs.Judging.{fine}
use Rattle.pli_typing.specs.Variables.{variables_in, declarations_at, head_of_block, index_of_variable}
use Rattle.pli_typing.specs.Calls.{Callee, copied, offset_argument, scalar_argument, argument_by_copy}
use Rattle.pli_typing.specs.Calls.{referent_argument}
use Rattle.pli_typing.specs.Calls.{arguments_judged, call_of, procedure_called, parameters_at}
use Rattle.pli_typing.specs.Calls.{parameter_place, leaves_pass}
use Rattle.pli_typing.specs.Converting.{Designated, Referent, Designates, Gives, GivesUnknown, GivesEmptyArea}
use Rattle.pli_typing.specs.Converting.{GivesNothing, NotKnown, Operand, scalar_type, value_with_type, stored_as}
use Rattle.well_formed_trees.specs.Every.{Every}
use Rattle.well_formed_trees.specs.Members.{leaves_of_part}
use Rattle.well_formed_trees.specs.Surroundings as W
use Rattle.well_formed_trees.specs.Surroundings.{Table, Where, head_of, IsArea, IsAreaReached}
use Rattle.well_formed_trees.specs.References.{part_of, given_in, leaf_left}
use Rattle.well_formed_trees.specs.Expressions.{IsScalarParameter, IsPassed, ArePassed}
use Rattle.well_formed_trees.specs.Expressions.{SoundArgument, SoundArguments, SoundCall, SoundOffset}
use Rattle.well_formed_trees.proofs.Lists.{first_empty, second_empty}
use Rattle.well_formed_trees.proofs.Letters.{second_true, first_true}
use Rattle.well_formed_trees.proofs.Places.{every_at}
use Rattle.well_formed_trees.proofs.HeldAlone.{BlockWell}
use Rattle.well_formed_trees.proofs.ParameterVariables.{Meant, all_meant, all_named, head_fine}
use Rattle.well_formed_trees.proofs.FineVariables.{only_area, none_above}
use Rattle.well_formed_trees.proofs.Facts.{Facts, IsSeen}
use Rattle.well_formed_trees.proofs.Found.{IsAmong, every_among}
use Rattle.well_formed_trees.proofs.MeantVariables.{is_meant}
use Rattle.well_formed_trees.proofs.KindsSound.{AreaFound, area_meant, static_meant, area_kept, IsKept}
use Rattle.well_formed_trees.proofs.CalledProcedures.{IsCalled}
use Rattle.well_formed_trees.proofs.ParameterParts.{TakesPart, TakesScalar, TakenByName, place_of_name}
use Rattle.well_formed_trees.proofs.ParameterParts.{taken_by_name}
use Rattle.well_formed_trees.proofs.ParameterAreas.{place_among, any_place}
use Rattle.well_formed_trees.proofs.FitValues.{SoundValue, IsPart, IsFit, IsStoredType, designates}
use Rattle.well_formed_trees.proofs.FitValues.{stored_sound, part_value}
use Rattle.well_formed_trees.proofs.FitOperators.{AllFit}

-- where a call is judged: the procedure that it calls, whose holder's surroundings are seen
record CallSite (blocks : List Block) (w : Where) (holder : ℕ) (head : T.ProcedureHead) : Type 0 where
  facts : Facts blocks w.program w.table
  called : IsCalled blocks w holder head
  seen : Every (IsSeen blocks w.around) called.around
  taken : Every (TakenByName blocks w called.number called.p) head.parameters

abbrev callee_at : List Block → ℕ → T.ProcedureHead → Place → Callee
callee_at blocks m head place =
    record {
      block = m;
      parameters = parameters_at blocks m (map (place_of_name blocks m) head.parameters);
      place = place;
    }

-- ---- areas of OFFSET parameters

around_callee : {blocks : List Block} {w : Where} {holder : ℕ} {head : T.ProcedureHead} (c : IsCalled blocks w holder
    head)
    → around_of (slice_get blocks c.number) ≡ c.number ∷ c.around
around_callee c = ap around_of c.has_block ∙ c.around_is

-- of another block
other_area : (blocks : List Block) (w : Where) (holder : ℕ) (head : T.ProcedureHead)
    (site : CallSite blocks w holder head) (area : Y.Variable)
    → AreaFound blocks (around_of (slice_get blocks site.called.number)) area
    → (area.block == site.called.number) ≡ false → IsArea w area
other_area blocks w holder head site area f e =
    by (subst (IsAmong f.block) (around_callee site.called) f.block_around) where
      by : IsAmong f.block (site.called.number ∷ site.called.around) → IsArea w area
      by (inl s) =
          let same : area.block ≡ f.block = ap (λ (v : Y.Variable). v.block) (sym f.declared.is) in
          absurd (cc (eq-eqb area.block site.called.number (same ∙ sym s), e))
      by (inr i) =
          subst (IsArea w) f.declared.is
          (area_meant blocks w site.facts f.block f.declared.h f.declared.declares
          (every_among (IsSeen blocks w.around) f.block site.called.around site.seen i) f.declared.written)

parameter_by : (a b c d : Bool) → (if a then Y.ParameterClass
    else (if b then Y.StaticClass else (if c then Y.ControlledClass
    else (if d then Y.BasedClass else Y.AutomaticClass)))) ≡ Y.ParameterClass → a ≡ true
parameter_by true b c d e = refl
parameter_by false true c d e = absurd (cc e)
parameter_by false false true d e = absurd (cc e)
parameter_by false false false true e = absurd (cc e)
parameter_by false false false false e = absurd (cc e)

-- a parameter of the callee itself
own_area : (blocks : List Block) (w : Where) (holder : ℕ) (head : T.ProcedureHead)
    (site : CallSite blocks w holder head) (area : Y.Variable) (around : List ℕ) → AreaFound blocks around area
    → area.block ≡ site.called.number → area.class ≡ Y.ParameterClass
    → slice_get site.called.p.parameters
    (parameter_place area (parameters_at blocks site.called.number
    (map (place_of_name blocks site.called.number) head.parameters))) ≡ Some area.index
own_area blocks w holder head site area around f e k =
    let c = site.called in
    let b = f.block in
    let h = f.declared.h in
    let is = f.declared.is in
    let block : b ≡ c.number = ap (λ (v : Y.Variable). v.block) is ∙ e in
    let index : index_of_variable blocks b h ≡ area.index = ap (λ (v : Y.Variable). v.index) is in
    let m = is_meant blocks w.program w.table site.facts b h f.declared.declares in
    let all = m.root ∷ m.members in
    let only = only_area _ all m.structure m.fine m.place h m.there f.declared.written in
    let root : root_of h ≡ h.variable = ap (λ vs. first_or vs h.variable) (none_above h.above only.alone) in
    let names : names_of (head_of_block (slice_get blocks b)) ≡ head.parameters =
    ap (λ n. names_of (head_of_block (slice_get blocks n))) block
    ∙ (ap (λ o. names_of (head_of_block o)) c.has_block ∙ ap names_of c.has_head) in
    let class = ap (λ (v : Y.Variable). v.class) is ∙ k in
    let parameter = parameter_by (is_parameter (names_of (head_of_block (slice_get blocks b))) h)
    (has 9 (root_of h).item.attributes) (has 10 (root_of h).item.attributes) (has 11 (root_of h).item.attributes)
    class in
    let named : list_any (λ n. same_bytes n.letters h.variable.declared.name.letters) head.parameters ≡ true =
    ap (λ (v : Variable). list_any (λ n. same_bytes n.letters v.declared.name.letters) head.parameters) (sym root)
    ∙ (ap (λ ns. list_any (λ n. same_bytes n.letters (root_of h).declared.name.letters) ns) (sym names)
    ∙ second_true (level_of (root_of h) == 1) _ parameter) in
    let level : level_of h.variable ≡ 1 =
    ap level_of (sym root) ∙ eqb-true (level_of (root_of h)) 1 (first_true (level_of (root_of h) == 1) _ parameter) in
    let found : slice_get (variables_in (declarations_at blocks c.number)) area.index ≡ Some (h ∷ []) =
    subst (λ n. slice_get (variables_in (declarations_at blocks n)) area.index ≡ Some (h ∷ [])) block
    (ap (slice_get (variables_in (declarations_at blocks b))) (sym index) ∙ (m.found ∙ ap Some only.only)) in
    let any = any_place blocks w site.facts c.number c.block c.has_block c.p h [] area.index found level
    head.parameters site.taken named in
    ap (λ ps. slice_get ps (parameter_place area (parameters_at blocks c.number
    (map (place_of_name blocks c.number) head.parameters)))) c.parameters
    ∙ place_among blocks w c.number c.p area.index head.parameters site.taken any

-- ---- one argument

abbrev ArgumentFits : Where → Y.Procedure → Y.DeclaredVariable → Y.Argument → Type 0
ArgumentFits w p d a = IsPassed w p d a × SoundArgument w a

copied_fit : (w : Where) (p : Y.Procedure) (d : Y.DeclaredVariable) (t : Y.LeafType) (place : Place) (v : Y.Value)
    → IsScalarParameter d t → IsStoredType w t → SoundValue w v → (copied t place v).faults ≡ []
    → ArgumentFits w p d (copied t place v).value
copied_fit w p d t place v s k h f =
    let a = stored_sound w t place (Some v) k h (first_empty (stored_as t place (Some v)).faults [] f) in
    ((s, a.0), a.1)

-- what is no POINTER becomes an OFFSET whatever the area is
plain_offset : (w : Where) (p : Y.Procedure) (d : Y.DeclaredVariable) (area : Y.Variable) (place : Place) (o : Y.Offset)
    → IsScalarParameter d (Y.OffsetLeaf (Some area)) → SoundOffset w o
    → ArgumentFits w p d (Y.ByCopy (Y.OffsetLeaf (Some area)) (Y.StoredOffset o))
plain_offset w p d area place o s h = ((s, tt), h)

pointer_argument : (blocks : List Block) (w : Where) (holder : ℕ) (head : T.ProcedureHead)
    (site : CallSite blocks w holder head) (d : Y.DeclaredVariable) (area : Y.Variable) (place name : Place)
    (x : Y.Pointer) → IsScalarParameter d (Y.OffsetLeaf (Some area))
    → AreaFound blocks (around_of (slice_get blocks site.called.number)) area
    → area.block ≡ site.called.number → SoundValue w (Y.PointerValue x) → (class : Y.StorageClass)
    → area.class ≡ class
    → (offset_argument (callee_at blocks site.called.number head name) area class place x).faults ≡ []
    → ArgumentFits w site.called.p d
    (offset_argument (callee_at blocks site.called.number head name) area class place x).value
pointer_argument blocks w holder head site d area place name x s f e h Y.ParameterClass c g = (
  (
    record { area = area; scalar = s; own = e ∙ sym site.called.own; class_is = c },
    own_area blocks w holder head site area (around_of (slice_get blocks site.called.number)) f e c,
  ),
  h,
)
pointer_argument blocks w holder head site d area place name x s f e h Y.AutomaticClass c g =
    (record { area = area; scalar = s; own = e ∙ sym site.called.own; class_is = c }, h)
pointer_argument blocks w holder head site d area place name x s f e h Y.StaticClass c g =
    let k = f.declared in
    copied_fit w site.called.p d (Y.OffsetLeaf (Some area)) place (Y.PointerValue x) s
    (inr (subst (W.IsStaticArea w) k.is
    (static_meant blocks w site.facts f.block k.h k.declares k.written
    (ap (λ (v : Y.Variable). v.class) k.is ∙ c)))) h g
pointer_argument blocks w holder head site d area place name x s f e h Y.BasedClass c g =
    let k = f.declared in
    absurd (subst IsKept (ap (λ (v : Y.Variable). v.class) k.is ∙ c)
    (area_kept blocks w.program w.table site.facts f.block k.h k.declares k.written))
pointer_argument blocks w holder head site d area place name x s f e h Y.ControlledClass c g =
    let k = f.declared in
    absurd (subst IsKept (ap (λ (v : Y.Variable). v.class) k.is ∙ c)
    (area_kept blocks w.program w.table site.facts f.block k.h k.declares k.written))

offset_parameter : (blocks : List Block) (w : Where) (holder : ℕ) (head : T.ProcedureHead)
    (site : CallSite blocks w holder head) (d : Y.DeclaredVariable) (area : Y.Variable) (place name : Place)
    (v : Y.Value) → IsScalarParameter d (Y.OffsetLeaf (Some area))
    → AreaFound blocks (around_of (slice_get blocks site.called.number)) area → SoundValue w v
    → (scalar_argument (callee_at blocks site.called.number head name) (Some (Y.OffsetLeaf (Some area))) place v).faults
    ≡ []
    → ArgumentFits w site.called.p d
    (scalar_argument (callee_at blocks site.called.number head name) (Some (Y.OffsetLeaf (Some area))) place v).value
offset_parameter blocks w holder head site d area place name (Y.NumberValue p n) s f h g = absurd (cc g)
offset_parameter blocks w holder head site d area place name (Y.TextValue t) s f h g = absurd (cc g)
offset_parameter blocks w holder head site d area place name (Y.BitValue b) s f h g = absurd (cc g)
offset_parameter blocks w holder head site d area place name (Y.OffsetValue other o) s f h g =
    plain_offset w site.called.p d area place o s h.1
offset_parameter blocks w holder head site d area place name Y.NullValue s f h g =
    plain_offset w site.called.p d area place Y.NullOffset s tt
offset_parameter blocks w holder head site d area place name (Y.PointerValue x) s f h g =
    by (area.block == site.called.number) refl g where
      callee : Callee
      callee = callee_at blocks site.called.number head name

      by : (b : Bool) → (area.block == site.called.number) ≡ b
          → (if b then offset_argument (callee_at blocks site.called.number head name) area area.class place x
          else copied (Y.OffsetLeaf (Some area)) place (Y.PointerValue x)).faults ≡ []
          → ArgumentFits w site.called.p d
          (if b then offset_argument (callee_at blocks site.called.number head name) area area.class place x
          else copied (Y.OffsetLeaf (Some area)) place (Y.PointerValue x)).value
      by true e g =
          pointer_argument blocks w holder head site d area place name x s f
          (eqb-true area.block site.called.number e) h area.class refl g
      by false e g =
          copied_fit w site.called.p d (Y.OffsetLeaf (Some area)) place (Y.PointerValue x) s
          (inl (other_area blocks w holder head site area f e)) h g

scalar_fit : (blocks : List Block) (w : Where) (holder : ℕ) (head : T.ProcedureHead)
    (site : CallSite blocks w holder head) (d : Y.DeclaredVariable) (t : Option Y.LeafType) (place name : Place)
    (v : Y.Value)
    → ((t' : Y.LeafType) → t ≡ Some t'
    → TakesScalar blocks (around_of (slice_get blocks site.called.number)) d t') → SoundValue w v
    → (scalar_argument (callee_at blocks site.called.number head name) t place v).faults ≡ []
    → ArgumentFits w site.called.p d
    (scalar_argument (callee_at blocks site.called.number head name) t place v).value
scalar_fit blocks w holder head site d None place name v k h g = absurd (cc g)
scalar_fit blocks w holder head site d (Some (Y.OffsetLeaf (Some area))) place name v k h g =
    let s = k (Y.OffsetLeaf (Some area)) refl in
    offset_parameter blocks w holder head site d area place name v s.parameter s.type h g
scalar_fit blocks w holder head site d (Some (Y.OffsetLeaf None)) place name v k h g =
    copied_fit w site.called.p d (Y.OffsetLeaf None) place v (k (Y.OffsetLeaf None) refl).parameter tt h g
scalar_fit blocks w holder head site d (Some (Y.FixedLeaf p)) place name v k h g =
    let s = k (Y.FixedLeaf p) refl in
    copied_fit w site.called.p d (Y.FixedLeaf p) place v s.parameter s.type h g
scalar_fit blocks w holder head site d (Some (Y.CharacterLeaf n)) place name v k h g =
    copied_fit w site.called.p d (Y.CharacterLeaf n) place v (k (Y.CharacterLeaf n) refl).parameter tt h g
scalar_fit blocks w holder head site d (Some (Y.VaryingLeaf n)) place name v k h g =
    copied_fit w site.called.p d (Y.VaryingLeaf n) place v (k (Y.VaryingLeaf n) refl).parameter tt h g
scalar_fit blocks w holder head site d (Some Y.BitLeaf) place name v k h g =
    copied_fit w site.called.p d Y.BitLeaf place v (k Y.BitLeaf refl).parameter tt h g
scalar_fit blocks w holder head site d (Some Y.PointerLeaf) place name v k h g =
    copied_fit w site.called.p d Y.PointerLeaf place v (k Y.PointerLeaf refl).parameter tt h g
scalar_fit blocks w holder head site d (Some (Y.AreaLeaf n)) place name v k h g =
    copied_fit w site.called.p d (Y.AreaLeaf n) place v (k (Y.AreaLeaf n) refl).parameter tt h g

take_all : {X : Type 0} (xs : List X) → take (length xs) xs ≡ xs
take_all [] = refl
take_all (x ∷ xs) = ap (λ l. x ∷ l) (take_all xs)

none_left : (ls : List Y.Leaf) → map (leaf_left 0) ls ≡ ls
none_left [] = refl
none_left (l ∷ ls) = ap (λ k. l ∷ k) (none_left ls)

-- the leaves of a whole variable
whole_leaves : (w : Where) (q : Designated) (h : IsPart w q) → q.is_whole ≡ true → q.leaves ≡ h.d.leaves
whole_leaves w q h e =
    let all = h.is_all e in
    h.leaves
    ∙ (ap (λ n. map (leaf_left (given_in n)) (leaves_of_part h.d (part_of q.reference))) all.1
    ∙ (none_left (leaves_of_part h.d (part_of q.reference))
    ∙ (ap (leaves_of_part h.d) all.0 ∙ take_all h.d.leaves)))

referent_fit : (blocks : List Block) (w : Where) (holder : ℕ) (head : T.ProcedureHead)
    (site : CallSite blocks w holder head) (p : Designated) (d : Y.DeclaredVariable) (place name : Place) (r : Referent)
    → TakesPart blocks (around_of (slice_get blocks site.called.number)) p d → IsFit w r
    → (referent_argument (callee_at blocks site.called.number head name) p place r).faults ≡ []
    → ArgumentFits w site.called.p d
    (referent_argument (callee_at blocks site.called.number head name) p place r).value
referent_fit blocks w holder head site p d place name (Designates q) k h g =
    by q.is_whole (leaves_pass p.leaves q.leaves) refl refl g where
      callee : Callee
      callee = callee_at blocks site.called.number head name

      copy : (o : Option Y.Value) → ((v : Y.Value) → o ≡ Some v → SoundValue w v)
          → (argument_by_copy (callee_at blocks site.called.number head name) p place o).faults ≡ []
          → ArgumentFits w site.called.p d
          (argument_by_copy (callee_at blocks site.called.number head name) p place o).value
      copy None s g = absurd (cc g)
      copy (Some v) s g =
          scalar_fit blocks w holder head site d (scalar_type p) place name v k.scalar (s v refl) g

      by : (a b : Bool) → q.is_whole ≡ a → leaves_pass p.leaves q.leaves ≡ b
          → (if a && b then fine (Y.ByReference q.reference)
          else argument_by_copy (callee_at blocks site.called.number head name) p place
          (value_with_type q.reference (scalar_type q))).faults ≡ []
          → ArgumentFits w site.called.p d (if a && b then fine (Y.ByReference q.reference)
          else argument_by_copy (callee_at blocks site.called.number head name) p place
          (value_with_type q.reference (scalar_type q))).value
      by true true e f g =
          let all = h.is_all e in (
            record {
              given = record { designates = designates h; all = all.0; none = all.1 };
              taken =
                  ap (λ ls. leaves_pass ls h.d.leaves) (sym k.leaves)
                  ∙ (ap (leaves_pass p.leaves) (sym (whole_leaves w q h e)) ∙ f);
            },
            h.sound,
          )
      by true false e f g = copy (value_with_type q.reference (scalar_type q)) (part_value w q h) g
      by false b e f g = copy (value_with_type q.reference (scalar_type q)) (part_value w q h) g
referent_fit blocks w holder head site p d place name (Gives v) k h g =
    scalar_fit blocks w holder head site d (scalar_type p) place name v k.scalar h g
referent_fit blocks w holder head site p d place name GivesUnknown k h g = absurd h
referent_fit blocks w holder head site p d place name GivesEmptyArea k h g = absurd (cc g)
referent_fit blocks w holder head site p d place name GivesNothing k h g = absurd (cc g)
referent_fit blocks w holder head site p d place name NotKnown k h g = absurd h

-- ---- all arguments

arguments_fit : (blocks : List Block) (w : Where) (holder : ℕ) (head : T.ProcedureHead)
    (site : CallSite blocks w holder head) (name : Place) (ns : List T.Name)
    → Every (TakenByName blocks w site.called.number site.called.p) ns → (os : List Operand) → AllFit w os
    → (arguments_judged (callee_at blocks site.called.number head name)
    (parameters_at blocks site.called.number (map (place_of_name blocks site.called.number) ns)) os).faults ≡ []
    → ArePassed w site.called.p (map (place_of_name blocks site.called.number) ns)
    (arguments_judged (callee_at blocks site.called.number head name)
    (parameters_at blocks site.called.number (map (place_of_name blocks site.called.number) ns)) os).value
    × SoundArguments w (arguments_judged (callee_at blocks site.called.number head name)
    (parameters_at blocks site.called.number (map (place_of_name blocks site.called.number) ns)) os).value
arguments_fit blocks w holder head site name [] t [] h g = (tt, tt)
arguments_fit blocks w holder head site name [] t (o ∷ os) h g = absurd (cc g)
arguments_fit blocks w holder head site name (n ∷ ns) t os h g =
    let m = site.called.number in
    let callee = callee_at blocks m head name in
    let rest = parameters_at blocks m (map (place_of_name blocks m) ns) in
    let all : parameters_at blocks m (map (place_of_name blocks m) (n ∷ ns)) ≡ t.0.designated ∷ rest =
    ap (λ l. l ++ rest) t.0.is in
    subst (λ ps. ArePassed w site.called.p (map (place_of_name blocks m) (n ∷ ns))
    (arguments_judged callee ps os).value × SoundArguments w (arguments_judged callee ps os).value) (sym all)
    (one os h (subst (λ ps. (arguments_judged callee ps os).faults ≡ []) all g)
    (λ os h g. arguments_fit blocks w holder head site name ns t.1 os h g)) where
      one : (os : List Operand) → AllFit w os
          → (arguments_judged (callee_at blocks site.called.number head name)
          (t.0.designated ∷ parameters_at blocks site.called.number
          (map (place_of_name blocks site.called.number) ns)) os).faults ≡ []
          → ((os : List Operand) → AllFit w os
          → (arguments_judged (callee_at blocks site.called.number head name)
          (parameters_at blocks site.called.number (map (place_of_name blocks site.called.number) ns)) os).faults ≡ []
          → ArePassed w site.called.p (map (place_of_name blocks site.called.number) ns)
          (arguments_judged (callee_at blocks site.called.number head name)
          (parameters_at blocks site.called.number (map (place_of_name blocks site.called.number) ns)) os).value
          × SoundArguments w (arguments_judged (callee_at blocks site.called.number head name)
          (parameters_at blocks site.called.number (map (place_of_name blocks site.called.number) ns)) os).value)
          → ArePassed w site.called.p (map (place_of_name blocks site.called.number) (n ∷ ns))
          (arguments_judged (callee_at blocks site.called.number head name)
          (t.0.designated ∷ parameters_at blocks site.called.number
          (map (place_of_name blocks site.called.number) ns)) os).value
          × SoundArguments w (arguments_judged (callee_at blocks site.called.number head name)
          (t.0.designated ∷ parameters_at blocks site.called.number
          (map (place_of_name blocks site.called.number) ns)) os).value
      one [] h g k = absurd (cc g)
      one (o ∷ os) h g k =
          let m = site.called.number in
          let callee = callee_at blocks m head name in
          let rest = parameters_at blocks m (map (place_of_name blocks m) ns) in
          let a = referent_argument callee t.0.designated o.place o.referent in
          let b = arguments_judged callee rest os in
          let x = referent_fit blocks w holder head site t.0.designated t.0.d o.place name o.referent t.0.takes h.0
          (first_empty a.faults (b.faults ++ []) g) in
          let y = k os h.1 (first_empty b.faults [] (second_empty a.faults (b.faults ++ []) g)) in
          (((t.0.d, t.0.found, x.0), y.0), (x.1, y.1))

-- ---- calls

all_taken : (blocks : List Block) (w : Where) → Facts blocks w.program w.table → (holder : ℕ)
    (head : T.ProcedureHead) (c : IsCalled blocks w holder head) (ns : List T.Name)
    → Every (Meant blocks c.number head.parameters) ns → Every (TakenByName blocks w c.number c.p) ns
all_taken blocks w facts holder head c [] m = tt
all_taken blocks w facts holder head c (n ∷ ns) m = (
  taken_by_name blocks w facts c.number c.block c.has_block c.p c.own head.parameters n m.0,
  all_taken blocks w facts holder head c ns m.1,
)

abbrev call_site : (blocks : List Block) (w : Where) → Facts blocks w.program w.table → (holder : ℕ) (head :
    T.ProcedureHead)
    → (c : IsCalled blocks w holder head) → Every (IsSeen blocks w.around) c.around → CallSite blocks w holder head
call_site blocks w facts holder head c seen =
    let b = c.block in
    let fine = head_fine b head c.has_head
    (every_at (λ b. block_faults b ≡ []) blocks c.number b facts.fine c.has_block) in
    let ps = head.parameters in
    let m = all_meant blocks c.number b ps ps c.has_block (every_at BlockWell blocks c.number b facts.well c.has_block)
    fine.variables (all_named [] ps) fine.declared in
    record { facts = facts; called = c; seen = seen; taken = all_taken blocks w facts holder head c ps m }

site_fit : (blocks : List Block) (w : Where) (holder : ℕ) (head : T.ProcedureHead)
    (site : CallSite blocks w holder head) (place : Place) (os : List Operand) → AllFit w os
    → (call_of blocks holder (callee_at blocks site.called.number head place) os).faults ≡ []
    → SoundCall w (call_of blocks holder (callee_at blocks site.called.number head place) os).value
site_fit blocks w holder head site place os h f =
    let c = site.called in
    let callee = callee_at blocks c.number head place in
    let a = arguments_fit blocks w holder head site place head.parameters site.taken os h
    (first_empty (arguments_judged callee callee.parameters os).faults [] f) in (
      record {
        procedure = c.p;
        is = c.is;
        passed =
            subst (λ is. ArePassed w c.p is (arguments_judged callee callee.parameters os).value) (sym c.parameters)
            a.0;
      },
      a.1,
    )

pub call_fit : (blocks : List Block) (w : Where) → Facts blocks w.program w.table → (holder : ℕ)
    (head : T.ProcedureHead) (c : IsCalled blocks w holder head) → Every (IsSeen blocks w.around) c.around
    → (place : Place) (os : List Operand) → AllFit w os → (procedure_called blocks holder head place os).faults ≡ []
    → SoundCall w (procedure_called blocks holder head place os).value
call_fit blocks w facts holder head c seen place os h f =
    let site = call_site blocks w facts holder head c seen in
    subst (λ n. SoundCall w (call_of blocks holder (callee_at blocks n head place) os).value) (sym c.number_is)
    (site_fit blocks w holder head site place os h
    (subst (λ n. (call_of blocks holder (callee_at blocks n head place) os).faults ≡ []) c.number_is f))
