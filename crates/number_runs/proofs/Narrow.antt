-- Scalars of other types that the class admits: what is declared, references to them, and their types.
use Rattle.std.proofs.Common.{◌≡◌, ℕ, ◌<◌, ◌≤◌, List, [], ◌∷◌, Option, None, Some, true, false, refl, sym, ap, ◌∙◌}
use Rattle.std.proofs.Common.{subst}
use Rattle.std.specs.Prelude.{◌&&◌, ◌==◌, Bool, nat_le, nat_lt, negsuc, pos}
use Rattle.std.proofs.lemmas.Bool.{and_parts, eqb-true, leb-true, ltb-true}
use Rattle.std.specs.List.{list_any}
use Rattle.pli_language.specs.Tree as T
use Rattle.pli_typing.specs.TypedTree as Y
use Rattle.pli_meaning.specs.DeclaredShapes.{declared_variable}
use Rattle.pli_meaning.specs.Texts.{most_text}
use Rattle.pli_headline.specs.ProvedSoFar.{text_leaf}
use Rattle.activation_relation.specs.Layers.{Layer}
use Rattle.program_runs.specs.Statements.{Block}
use Rattle.expression_runs.specs.Laws.{Does}
use Rattle.expression_runs.specs.Values.{Setting}
use Rattle.expression_runs.specs.Variables.{Spot, variable_of, whole}
use Rattle.test_runs.specs.Tests.{Tests}
use Rattle.variable_runs.specs.Known.{IsKnown}
use Rattle.counter_runs.specs.Words.{telling}
use Rattle.counter_runs.proofs.Known.{known_told}
use Rattle.scalar_runs.specs.Scalars.{IsScalar, scalar_declared, scalar_leaf}
use Rattle.text_values.specs.Variables.{IsText}
use Rattle.scalar_runs.proofs.ScalarPoints.{bit_does, number_does}
use Rattle.number_runs.specs.Knowledge.{KnowsNumbers}
use Rattle.number_runs.specs.Initial.{are_values, values_in, values_of}
use Rattle.number_runs.specs.Narrow.{has_precision, is_bit, is_narrow, is_narrow_leaf, is_narrow_of, is_narrow_type}
use Rattle.number_runs.specs.Narrow.{is_length, is_narrow_if, is_number_type, is_text_type, narrow_type, type_if}
use Rattle.number_runs.specs.Narrow.{type_in}
use Rattle.number_runs.specs.Numbers.{Scope, is_automatic, is_narrow_known, is_narrow_with, is_place}
use Rattle.number_runs.specs.Numbers.{reference_needs, spot_of, type_known}
use Rattle.number_runs.proofs.Variables.{automatic_is, part_is}

-- ---- declarations

leaf_is :
    (t : Y.LeafType) (bs : List Y.Bounds) (initial : List T.InitialItem) → is_narrow_leaf t bs initial ≡ true →
    ((λ (l : Y.Leaf). l) (record { type = t; bounds = bs; initial = initial }) ≡ scalar_leaf t initial)
    × ((is_narrow_type t ≡ true) × (are_values t initial ≡ true))
leaf_is t [] initial h = (refl, and_parts (is_narrow_type t) (are_values t initial) h)
leaf_is t (b ∷ bs) initial h = absurd (cc h)

abbrev declared_by :
    Y.StorageClass → List Y.Member → List Y.Leaf → Option Y.ReferMember → List Y.Evaluation → Y.DeclaredVariable
declared_by c ms ls r es = record { class = c; members = ms; leaves = ls; refer = r; evaluations = es }

declared_is :
    (c : Y.StorageClass) (ms : List Y.Member) (ls : List Y.Leaf) (r : Option Y.ReferMember) (es : List Y.Evaluation) →
    is_narrow_of c ms ls r es ≡ true →
    (declared_by c ms ls r es ≡ scalar_declared (type_in ls) (values_in ls))
    × ((is_narrow_type (type_in ls) ≡ true) × (are_values (type_in ls) (values_in ls) ≡ true))
declared_is Y.AutomaticClass (m ∷ []) (l ∷ []) None [] h =
    let last = is_narrow_leaf l.type l.bounds l.initial in
    let a = and_parts (m.depth == 0) ((m.dimensions == 0) && last) h in
    let b = and_parts (m.dimensions == 0) last a.1 in
    let c = leaf_is l.type l.bounds l.initial b.1 in (
      ap (λ n. declared_by Y.AutomaticClass (record m { depth = n } ∷ []) (l ∷ []) None [])
          (eqb-true m.depth 0 a.0)
          ∙ ap (λ n. declared_by Y.AutomaticClass (record { depth = 0; dimensions = n } ∷ []) (l ∷ []) None [])
          (eqb-true m.dimensions 0 b.0)
          ∙ ap (λ l'. declared_by Y.AutomaticClass (record { depth = 0; dimensions = 0 } ∷ []) (l' ∷ []) None []) c.0,
      c.1,
    )
declared_is Y.AutomaticClass [] ls r es h = absurd (cc h)
declared_is Y.AutomaticClass (m ∷ n ∷ ms) ls r es h = absurd (cc h)
declared_is Y.AutomaticClass (m ∷ []) [] r es h = absurd (cc h)
declared_is Y.AutomaticClass (m ∷ []) (l ∷ l' ∷ ls) r es h = absurd (cc h)
declared_is Y.AutomaticClass (m ∷ []) (l ∷ []) (Some r) es h = absurd (cc h)
declared_is Y.AutomaticClass (m ∷ []) (l ∷ []) None (e ∷ es) h = absurd (cc h)
declared_is Y.ParameterClass ms ls r es h = absurd (cc h)
declared_is Y.StaticClass ms ls r es h = absurd (cc h)
declared_is Y.BasedClass ms ls r es h = absurd (cc h)
declared_is Y.ControlledClass ms ls r es h = absurd (cc h)

pub narrow_is : (d : Y.DeclaredVariable) → is_narrow d ≡ true → d ≡ scalar_declared (narrow_type d) (values_of d)
narrow_is d h = (declared_is d.class d.members d.leaves d.refer d.evaluations h).0

pub type_is_narrow : (d : Y.DeclaredVariable) → is_narrow d ≡ true → is_narrow_type (narrow_type d) ≡ true
type_is_narrow d h = (declared_is d.class d.members d.leaves d.refer d.evaluations h).1.0

pub narrow_values : (d : Y.DeclaredVariable) → is_narrow d ≡ true → are_values (narrow_type d) (values_of d) ≡ true
narrow_values d h = (declared_is d.class d.members d.leaves d.refer d.evaluations h).1.1

-- of a constant length
pub record IsLength (size : Y.Extent) : Type 0 where
  pub length : ℕ
  pub is : size ≡ Y.ConstantExtent (pos length)
  pub some : 0 < length
  pub few : length ≤ most_text

length_is : (size : Y.Extent) → is_length size ≡ true → IsLength size
length_is (Y.ConstantExtent (pos n)) h =
    let a = and_parts (nat_lt 0 n) (nat_le n most_text) h in
    record { length = n; is = refl; some = ltb-true 0 n a.0; few = leb-true n most_text a.1 }
length_is (Y.ConstantExtent (negsuc n)) h = absurd (cc h)
length_is Y.StarExtent h = absurd (cc h)
length_is Y.ReferExtent h = absurd (cc h)
length_is (Y.EvaluatedExtent place) h = absurd (cc h)

pub record IsTextType (t : Y.LeafType) : Type 0 where
  pub varying : Bool
  pub length : ℕ
  pub is : t ≡ text_leaf varying length
  pub some : 0 < length
  pub few : length ≤ most_text

pub text_type_is : (t : Y.LeafType) → is_text_type t ≡ true → IsTextType t
text_type_is (Y.CharacterLeaf size) h =
    let n = length_is size h in
    record { varying = false; length = n.length; is = ap Y.CharacterLeaf n.is; some = n.some; few = n.few }
text_type_is (Y.VaryingLeaf size) h =
    let n = length_is size h in
    record { varying = true; length = n.length; is = ap Y.VaryingLeaf n.is; some = n.some; few = n.few }
text_type_is (Y.FixedLeaf precision) h = absurd (cc h)
text_type_is Y.BitLeaf h = absurd (cc h)
text_type_is Y.PointerLeaf h = absurd (cc h)
text_type_is (Y.OffsetLeaf area) h = absurd (cc h)
text_type_is (Y.AreaLeaf size) h = absurd (cc h)

-- FIXED BINARY of 1 to 30 bits, BIT(1), or CHARACTER
pub by_narrow :
    (P : Y.LeafType → Type 0) → ((precision : ℕ) → is_narrow_type (Y.FixedLeaf precision) ≡ true →
    P (Y.FixedLeaf precision)) → P Y.BitLeaf →
    ((varying : Bool) (length : ℕ) → 0 < length → length ≤ most_text → P (text_leaf varying length)) →
    (t : Y.LeafType) → is_narrow_type t ≡ true → P t
by_narrow P fixed bit text (Y.FixedLeaf precision) h = fixed precision h
by_narrow P fixed bit text Y.BitLeaf h = bit
by_narrow P fixed bit text (Y.CharacterLeaf size) h =
    let t = text_type_is (Y.CharacterLeaf size) h in subst P (sym t.is) (text t.varying t.length t.some t.few)
by_narrow P fixed bit text (Y.VaryingLeaf size) h =
    let t = text_type_is (Y.VaryingLeaf size) h in subst P (sym t.is) (text t.varying t.length t.some t.few)
by_narrow P fixed bit text Y.PointerLeaf h = absurd (cc h)
by_narrow P fixed bit text (Y.OffsetLeaf area) h = absurd (cc h)
by_narrow P fixed bit text (Y.AreaLeaf size) h = absurd (cc h)

-- ---- references

-- all of one that is known, whose type passes a test
pub record IsNarrow (s : Scope) (test : Y.LeafType → Bool) (r : Y.Reference) : Type 0 where
  pub spot : Spot
  pub is : r ≡ whole spot
  pub known : is_narrow_known s spot ≡ true
  pub passes : test (type_known s spot) ≡ true
  pub may : s.narrows ≡ true

pub narrow_with_is :
    (s : Scope) (test : Y.LeafType → Bool) (r : Y.Reference) → is_narrow_with s test r ≡ true → IsNarrow s test r
narrow_with_is s test (Y.Referring v Y.NotLocated part Y.NoNumber) h =
    let known = is_narrow_known s (spot_of v) in
    let last = known && test (type_known s (spot_of v)) in
    let all = (part.first == 0) && ((part.count == 1) && last) in
    let d = and_parts s.narrows (is_automatic v.class && all) h in
    let a = and_parts (is_automatic v.class) all d.1 in
    let b = and_parts (part.first == 0) ((part.count == 1) && last) a.1 in
    let c = and_parts (part.count == 1) last b.1 in
    let e = and_parts known (test (type_known s (spot_of v))) c.1 in
    record {
      spot = spot_of v;
      is =
          ap (λ k. Y.Referring (record v { class = k }) Y.NotLocated part Y.NoNumber) (automatic_is v.class a.0)
          ∙ ap (λ p. Y.Referring (variable_of (spot_of v)) Y.NotLocated p Y.NoNumber) (part_is part b.0 c.0);
      known = e.0;
      passes = e.1;
      may = d.0;
    }
narrow_with_is s test (Y.Referring v Y.NotLocated part (Y.NumberThen first rest)) h = absurd (cc h)
narrow_with_is s test (Y.Referring v (Y.LocatedBy p) part subscripts) h = absurd (cc h)

-- ---- types

pub bit_is : (t : Y.LeafType) → is_bit t ≡ true → t ≡ Y.BitLeaf
bit_is Y.BitLeaf h = refl
bit_is (Y.FixedLeaf precision) h = absurd (cc h)
bit_is (Y.CharacterLeaf size) h = absurd (cc h)
bit_is (Y.VaryingLeaf size) h = absurd (cc h)
bit_is Y.PointerLeaf h = absurd (cc h)
bit_is (Y.OffsetLeaf area) h = absurd (cc h)
bit_is (Y.AreaLeaf size) h = absurd (cc h)

pub precision_is : (n : ℕ) (t : Y.LeafType) → has_precision n t ≡ true → t ≡ Y.FixedLeaf n
precision_is n (Y.FixedLeaf precision) h = ap Y.FixedLeaf (eqb-true precision n h)
precision_is n (Y.CharacterLeaf size) h = absurd (cc h)
precision_is n (Y.VaryingLeaf size) h = absurd (cc h)
precision_is n Y.BitLeaf h = absurd (cc h)
precision_is n Y.PointerLeaf h = absurd (cc h)
precision_is n (Y.OffsetLeaf area) h = absurd (cc h)
precision_is n (Y.AreaLeaf size) h = absurd (cc h)

pub number_type_is : (t : Y.LeafType) → is_number_type t ≡ true → (n : ℕ) × (t ≡ Y.FixedLeaf n)
number_type_is (Y.FixedLeaf precision) h = (precision, refl)
number_type_is (Y.CharacterLeaf size) h = absurd (cc h)
number_type_is (Y.VaryingLeaf size) h = absurd (cc h)
number_type_is Y.BitLeaf h = absurd (cc h)
number_type_is Y.PointerLeaf h = absurd (cc h)
number_type_is (Y.OffsetLeaf area) h = absurd (cc h)
number_type_is (Y.AreaLeaf size) h = absurd (cc h)

-- ---- in other blocks

pub narrow_told :
    (k : Block) (φ : Layer) (φs : List Layer) (waits : ℕ → Option ℕ) → k.first.control.layers ≡ φ ∷ φs → (x : Spot)
    (t : Y.LeafType) → IsScalar k x t → IsScalar (telling waits φ φs k) x t
narrow_told k φ φs waits newest x t is =
    record { initial = is.initial; known = known_told k φ φs waits newest x _ is.known }

pub outer_narrow :
    (k inner : Block) (x : Spot) (t : Y.LeafType) →
    ((d : Y.DeclaredVariable) → IsKnown k x d → IsKnown inner x d) → IsScalar k x t → IsScalar inner x t
outer_narrow k inner x t known is = record { initial = is.initial; known = known _ is.known }

-- ---- in expressions

-- the type of one that is known is one of these
pub known_narrow : (s : Scope) (x : Spot) → is_narrow_known s x ≡ true → is_narrow_type (type_known s x) ≡ true
known_narrow s x h =
    let o = declared_variable s.program (variable_of x) in
    by o (and_parts (list_any (is_place x) s.blocks) (is_narrow_if o) h).1
  where
    by : (o : Option Y.DeclaredVariable) → is_narrow_if o ≡ true → is_narrow_type (type_if o) ≡ true
    by None h = absurd (cc h)
    by (Some d) h = type_is_narrow d h

pub narrow_does :
    (s : Scope) (k : Setting) (r : Y.Reference) → KnowsNumbers s k → is_narrow_with s is_number_type r ≡ true →
    Does k (reference_needs r) (Y.NumberIn r)
narrow_does s k r h is =
    let w = narrow_with_is s is_number_type r is in
    let t = number_type_is (type_known s w.spot) w.passes in
    subst (λ q. Does k (reference_needs q) (Y.NumberIn q)) (sym w.is)
    (number_does k w.spot t.0 h.begun
    (subst (λ u. IsScalar k.block w.spot u) t.1 (h.narrows w.may w.spot w.known)))

pub flag_does :
    (s : Scope) (k : Setting) (r : Y.Reference) → KnowsNumbers s k → is_narrow_with s is_bit r ≡ true →
    Tests k (reference_needs r) (Y.BitIn r)
flag_does s k r h is =
    let w = narrow_with_is s is_bit r is in
    subst (λ q. Tests k (reference_needs q) (Y.BitIn q)) (sym w.is)
    (bit_does k w.spot h.begun
    (subst (λ u. IsScalar k.block w.spot u) (bit_is (type_known s w.spot) w.passes)
    (h.narrows w.may w.spot w.known)))

-- one whose type is that of texts
pub text_known :
    (k : Block) (x : Spot) (t : Y.LeafType) (is : IsTextType t) → IsScalar k x t → IsText k x is.varying is.length
text_known k x t is known =
    let h = subst (λ u. IsScalar k x u) is.is known in
    record { initial = h.initial; known = h.known; short = is.few }
