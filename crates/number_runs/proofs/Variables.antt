-- Variables that the class admits: references to all of one, and what is declared.
use Rattle.std.proofs.Common.{◌≡◌, ℕ, suc, List, [], ◌∷◌, length, Option, None, Some, true, refl, sym, ap, ◌∙◌, subst}
use Rattle.std.specs.Prelude.{◌&&◌, ◌==◌}
use Rattle.std.proofs.lemmas.Bool.{and_parts, eqb-true}
use Rattle.pli_typing.specs.TypedTree as Y
use Rattle.pli_coding.specs.Expressions.{argument_count}
use Rattle.expression_runs.specs.Variables.{Spot, number_declared, number_leaf, variable_of, whole, whole_part}
use Rattle.argument_runs.specs.Parameters.{parameter, parameter_declared, parameter_of}
use Rattle.activation_relation.specs.FrameLaws.{with_waits}
use Rattle.activation_relation.specs.Layers.{Layer}
use Rattle.expression_runs.specs.Values.{Setting}
use Rattle.list_calls.specs.Arguments.{ByName, ByValue, Passes, Way, argument_of, arguments_of, setting_told, whole_of}
use Rattle.list_calls.specs.ListKnown.{AreStored, IsStored}
use Rattle.number_runs.specs.Numbers.{Scope, are_arguments}
use Rattle.number_runs.specs.Numbers.{has_none, is_absent, is_automatic, is_fixed, is_given, is_known}
use Rattle.number_runs.specs.Initial.{are_values, values_in, values_of}
use Rattle.number_runs.specs.Numbers.{is_argument, is_number, is_number_leaf, is_one_number, is_one_word, is_parameter}
use Rattle.number_runs.specs.Numbers.{is_parameter_class, is_passed, is_plain}
use Rattle.number_runs.specs.Numbers.{is_received, is_scalar, is_variable, is_word, spot_of}
use Rattle.number_runs.specs.Statements.{behind_sets, behind_stored, is_stored}

-- ---- references

pub automatic_is : (c : Y.StorageClass) → is_automatic c ≡ true → c ≡ Y.AutomaticClass
automatic_is Y.AutomaticClass h = refl
automatic_is Y.ParameterClass h = absurd (cc h)
automatic_is Y.StaticClass h = absurd (cc h)
automatic_is Y.BasedClass h = absurd (cc h)
automatic_is Y.ControlledClass h = absurd (cc h)

pub part_is : (part : Y.Part) → (part.first == 0) ≡ true → (part.count == 1) ≡ true → part ≡ whole_part
part_is part first count =
    ap (λ n. record part { first = n }) (eqb-true part.first 0 first)
    ∙ ap (λ (n : ℕ). let p : Y.Part = record { first = 0; count = n } in p) (eqb-true part.count 1 count)

-- all of a variable that is known
pub record IsWhole (s : Scope) (r : Y.Reference) : Type 0 where
  pub spot : Spot
  pub is : r ≡ whole spot
  pub known : is_known s spot ≡ true

pub variable_is : (s : Scope) (r : Y.Reference) → is_variable s r ≡ true → IsWhole s r
variable_is s (Y.Referring v Y.NotLocated part Y.NoNumber) h =
    let known = is_known s (spot_of v) in
    let a = and_parts (is_automatic v.class) ((part.first == 0) && ((part.count == 1) && known)) h in
    let b = and_parts (part.first == 0) ((part.count == 1) && known) a.1 in
    let c = and_parts (part.count == 1) known b.1 in
    record {
      spot = spot_of v;
      is =
          ap (λ k. Y.Referring (record v { class = k }) Y.NotLocated part Y.NoNumber) (automatic_is v.class a.0)
          ∙ ap (λ p. Y.Referring (variable_of (spot_of v)) Y.NotLocated p Y.NoNumber) (part_is part b.0 c.0);
      known = c.1;
    }
variable_is s (Y.Referring v Y.NotLocated part (Y.NumberThen first rest)) h = absurd (cc h)
variable_is s (Y.Referring v (Y.LocatedBy p) part subscripts) h = absurd (cc h)

-- all of a parameter
pub record IsReceived (s : Scope) (r : Y.Reference) : Type 0 where
  pub spot : Spot
  pub is : r ≡ parameter spot
  pub known : is_received s spot ≡ true

received_class : (c : Y.StorageClass) → is_parameter_class c ≡ true → c ≡ Y.ParameterClass
received_class Y.ParameterClass h = refl
received_class Y.AutomaticClass h = absurd (cc h)
received_class Y.StaticClass h = absurd (cc h)
received_class Y.BasedClass h = absurd (cc h)
received_class Y.ControlledClass h = absurd (cc h)

pub parameter_is : (s : Scope) (r : Y.Reference) → is_given s r ≡ true → IsReceived s r
parameter_is s (Y.Referring v Y.NotLocated part Y.NoNumber) h =
    let known = is_received s (spot_of v) in
    let a = and_parts (is_parameter_class v.class) ((part.first == 0) && ((part.count == 1) && known)) h in
    let b = and_parts (part.first == 0) ((part.count == 1) && known) a.1 in
    let c = and_parts (part.count == 1) known b.1 in
    record {
      spot = spot_of v;
      is =
          ap (λ k. Y.Referring (record v { class = k }) Y.NotLocated part Y.NoNumber) (received_class v.class a.0)
          ∙ ap (λ p. Y.Referring (parameter_of (spot_of v)) Y.NotLocated p Y.NoNumber) (part_is part b.0 c.0);
      known = c.1;
    }
parameter_is s (Y.Referring v Y.NotLocated part (Y.NumberThen first rest)) h = absurd (cc h)
parameter_is s (Y.Referring v (Y.LocatedBy p) part subscripts) h = absurd (cc h)

-- ---- declarations

pub fixed_is : (t : Y.LeafType) → is_fixed t ≡ true → t ≡ Y.FixedLeaf 31
fixed_is (Y.FixedLeaf precision) h = ap Y.FixedLeaf (eqb-true precision 31 h)
fixed_is (Y.CharacterLeaf size) h = absurd (cc h)
fixed_is (Y.VaryingLeaf size) h = absurd (cc h)
fixed_is Y.BitLeaf h = absurd (cc h)
fixed_is Y.PointerLeaf h = absurd (cc h)
fixed_is (Y.OffsetLeaf area) h = absurd (cc h)
fixed_is (Y.AreaLeaf size) h = absurd (cc h)

none_is : {A : Type 0} (xs : List A) → has_none xs ≡ true → xs ≡ []
none_is [] h = refl
none_is (x ∷ xs) h = absurd (cc h)

absent_is : {A : Type 0} (x : Option A) → is_absent x ≡ true → x ≡ None
absent_is None h = refl
absent_is (Some x) h = absurd (cc h)

word_is : (l : Y.Leaf) → is_word l ≡ true → l ≡ number_leaf []
word_is l h =
    let a = and_parts (is_fixed l.type) (has_none l.bounds && has_none l.initial) h in
    let b = and_parts (has_none l.bounds) (has_none l.initial) a.1 in
    ap (λ t. record l { type = t }) (fixed_is l.type a.0)
    ∙ ap (λ bs. let l' : Y.Leaf = record { type = Y.FixedLeaf 31; bounds = bs; initial = l.initial } in l')
    (none_is l.bounds b.0)
    ∙ ap number_leaf (none_is l.initial b.1)

leaves_are : (ls : List Y.Leaf) → is_one_word ls ≡ true → ls ≡ number_leaf [] ∷ []
leaves_are [] h = absurd (cc h)
leaves_are (l ∷ []) h = ap (λ l'. l' ∷ []) (word_is l h)
leaves_are (l ∷ m ∷ ls) h = absurd (cc h)

-- one to which INITIAL may give values
number_is :
    (l : Y.Leaf) → is_number_leaf l ≡ true →
    (l ≡ number_leaf l.initial) × (are_values (Y.FixedLeaf 31) l.initial ≡ true)
number_is l h =
    let values = are_values l.type l.initial in
    let a = and_parts (is_fixed l.type) (has_none l.bounds && values) h in
    let b = and_parts (has_none l.bounds) values a.1 in (
      ap (λ t. record l { type = t }) (fixed_is l.type a.0)
          ∙ ap (λ bs. let l' : Y.Leaf = record { type = Y.FixedLeaf 31; bounds = bs; initial = l.initial } in l')
          (none_is l.bounds b.0),
      subst (λ t. are_values t l.initial ≡ true) (fixed_is l.type a.0) b.1,
    )

numbers_are :
    (ls : List Y.Leaf) → is_one_number ls ≡ true →
    (ls ≡ number_leaf (values_in ls) ∷ []) × (are_values (Y.FixedLeaf 31) (values_in ls) ≡ true)
numbers_are [] h = absurd (cc h)
numbers_are (l ∷ []) h = let one = number_is l h in (ap (λ l'. l' ∷ []) one.0, one.1)
numbers_are (l ∷ m ∷ ls) h = absurd (cc h)

abbrev plain_members : List Y.Member
plain_members = (number_declared []).members

scalar_is : (ms : List Y.Member) → is_scalar ms ≡ true → ms ≡ plain_members
scalar_is [] h = absurd (cc h)
scalar_is (m ∷ []) h =
    let a = and_parts (m.depth == 0) (m.dimensions == 0) h in
    ap (λ n. record m { depth = n } ∷ []) (eqb-true m.depth 0 a.0)
    ∙ ap (λ n. let m' : Y.Member = record { depth = 0; dimensions = n } in m' ∷ []) (eqb-true m.dimensions 0 a.1)
scalar_is (m ∷ l ∷ ms) h = absurd (cc h)

pub plain_is : (d : Y.DeclaredVariable) → is_plain d ≡ true → d ≡ number_declared (values_of d)
plain_is d h =
    let one = is_one_number d.leaves in
    let absent = is_absent d.refer in
    let last = has_none d.evaluations in
    let initial = values_of d in
    let a = and_parts (is_automatic d.class) (is_scalar d.members && (one && (absent && last))) h in
    let b = and_parts (is_scalar d.members) (one && (absent && last)) a.1 in
    let c = and_parts one (absent && last) b.1 in
    let e = and_parts absent last c.1 in
    ap (λ k. record d { class = k }) (automatic_is d.class a.0)
    ∙ ap (λ ms. record d { class = Y.AutomaticClass; members = ms }) (scalar_is d.members b.0)
    ∙ ap (λ ls. record d { class = Y.AutomaticClass; members = plain_members; leaves = ls })
    (numbers_are d.leaves c.0).0
    ∙ ap (λ r.
    let d' : Y.DeclaredVariable = record (number_declared initial) { refer = r; evaluations = d.evaluations } in d')
    (absent_is d.refer e.0)
    ∙ ap (λ es. let d' : Y.DeclaredVariable = record (number_declared initial) { evaluations = es } in d')
    (none_is d.evaluations e.1)

pub plain_values : (d : Y.DeclaredVariable) → is_plain d ≡ true → are_values (Y.FixedLeaf 31) (values_of d) ≡ true
plain_values d h =
    let rest = is_absent d.refer && has_none d.evaluations in
    let one = is_one_number d.leaves in
    let a = and_parts (is_automatic d.class) (is_scalar d.members && (one && rest)) h in
    let b = and_parts (is_scalar d.members) (one && rest) a.1 in
    (numbers_are d.leaves (and_parts one rest b.1).0).1

pub parameter_declared_is : (d : Y.DeclaredVariable) → is_parameter d ≡ true → d ≡ parameter_declared
parameter_declared_is d h =
    let one = is_one_word d.leaves in
    let absent = is_absent d.refer in
    let last = has_none d.evaluations in
    let a = and_parts (is_parameter_class d.class) (is_scalar d.members && (one && (absent && last))) h in
    let b = and_parts (is_scalar d.members) (one && (absent && last)) a.1 in
    let c = and_parts one (absent && last) b.1 in
    let e = and_parts absent last c.1 in
    ap (λ k. record d { class = k }) (received_class d.class a.0)
    ∙ ap (λ ms. record d { class = Y.ParameterClass; members = ms }) (scalar_is d.members b.0)
    ∙ ap (λ ls. record d { class = Y.ParameterClass; members = plain_members; leaves = ls }) (leaves_are d.leaves c.0)
    ∙ ap (λ r. let d' : Y.DeclaredVariable = record parameter_declared { refer = r; evaluations = d.evaluations } in d')
    (absent_is d.refer e.0)
    ∙ ap (λ es. let d' : Y.DeclaredVariable = record parameter_declared { evaluations = es } in d')
    (none_is d.evaluations e.1)

-- ---- arguments

copy_is :
    (s : Scope) (type : Y.LeafType) (precision : ℕ) (x : Y.Number) →
    is_argument s (Y.ByCopy type (Y.StoredNumber precision x)) ≡ true →
    argument_of (ByValue x) ≡ Y.ByCopy type (Y.StoredNumber precision x)
copy_is s type precision x h =
    let a = and_parts (is_fixed type) ((precision == 31) && is_number s x) h in
    let b = and_parts (precision == 31) (is_number s x) a.1 in
    ap (λ n. Y.ByCopy (Y.FixedLeaf 31) (Y.StoredNumber n x)) (sym (eqb-true precision 31 b.0))
    ∙ ap (λ t. Y.ByCopy t (Y.StoredNumber precision x)) (sym (fixed_is type a.0))

-- a reference whose name may be passed at a block with these layers: what it names, the serial number of what that
-- stands for, and the number of its signature
pub record Passable (k : Setting) (φ : Layer) (φs : List Layer) (r : Y.Reference) : Type 0 where
  pub variable : Y.Variable
  pub is : whole_of variable ≡ r
  pub serial : ℕ
  pub signature : ℕ
  pub stored : IsStored k.block.first serial signature
  pub passes :
      (words : ℕ) (waits : ℕ → Option ℕ) →
      Passes (setting_told k words waits φ φs) (with_waits waits φ) φs variable serial signature

-- each that may be an argument
abbrev pub Names : Scope → Setting → Layer → List Layer → Type 0
Names s k φ φs = (r : Y.Reference) → is_passed s r ≡ true → Passable k φ φs r

abbrev pub way_of :
    {k : Setting} → {φ : Layer} → {φs : List Layer} → (s : Scope) → Names s k φ φs → (x : Y.Argument) →
    is_argument s x ≡ true → Way
way_of s names (Y.ByCopy type (Y.StoredNumber precision x)) h = ByValue x
way_of s names (Y.ByCopy type (Y.StoredText x)) h = absurd (cc h)
way_of s names (Y.ByCopy type (Y.StoredBit x)) h = absurd (cc h)
way_of s names (Y.ByCopy type (Y.StoredPointer x)) h = absurd (cc h)
way_of s names (Y.ByCopy type (Y.StoredOffset x)) h = absurd (cc h)
way_of s names (Y.ByReference r) h =
    let n = names r h in ByName n.variable n.serial n.signature
way_of s names (Y.ByOffsetInParameter p parameter) h = absurd (cc h)
way_of s names (Y.ByOffsetInAutomatic p) h = absurd (cc h)

way_is :
    {k : Setting} {φ : Layer} {φs : List Layer} (s : Scope) (names : Names s k φ φs) (x : Y.Argument)
    (h : is_argument s x ≡ true) → argument_of (way_of s names x h) ≡ x
way_is s names (Y.ByCopy type (Y.StoredNumber precision x)) h = copy_is s type precision x h
way_is s names (Y.ByCopy type (Y.StoredText x)) h = absurd (cc h)
way_is s names (Y.ByCopy type (Y.StoredBit x)) h = absurd (cc h)
way_is s names (Y.ByCopy type (Y.StoredPointer x)) h = absurd (cc h)
way_is s names (Y.ByCopy type (Y.StoredOffset x)) h = absurd (cc h)
way_is s names (Y.ByReference r) h = ap (λ q. Y.ByReference q) (names r h).is
way_is s names (Y.ByOffsetInParameter p parameter) h = absurd (cc h)
way_is s names (Y.ByOffsetInAutomatic p) h = absurd (cc h)

-- a list of them
abbrev pub ways_of :
    {k : Setting} → {φ : Layer} → {φs : List Layer} → (s : Scope) → Names s k φ φs → (xs : Y.Arguments) →
    are_arguments s xs ≡ true → List Way
ways_of s names Y.NoArgument h = []
ways_of s names (Y.ArgumentThen first rest) h =
    let a = and_parts (is_argument s first) (are_arguments s rest) h in
    way_of s names first a.0 ∷ ways_of s names rest a.1

pub ways_are :
    {k : Setting} {φ : Layer} {φs : List Layer} (s : Scope) (names : Names s k φ φs) (xs : Y.Arguments)
    (h : are_arguments s xs ≡ true) → arguments_of (ways_of s names xs h) ≡ xs
ways_are s names Y.NoArgument h = refl
ways_are s names (Y.ArgumentThen first rest) h =
    let a = and_parts (is_argument s first) (are_arguments s rest) h in
    ap (λ q. Y.ArgumentThen q (arguments_of (ways_of s names rest a.1))) (way_is s names first a.0)
    ∙ ap (λ q. Y.ArgumentThen first q) (ways_are s names rest a.1)

pub ways_many :
    {k : Setting} {φ : Layer} {φs : List Layer} (s : Scope) (names : Names s k φ φs) (xs : Y.Arguments)
    (h : are_arguments s xs ≡ true) → length (ways_of s names xs h) ≡ argument_count xs
ways_many s names Y.NoArgument h = refl
ways_many s names (Y.ArgumentThen first rest) h =
    let a = and_parts (is_argument s first) (are_arguments s rest) h in
    ap suc (ways_many s names rest a.1)

-- what is passed by its name is stored
way_stored :
    {k : Setting} {φ : Layer} {φs : List Layer} (s : Scope) (names : Names s k φ φs) (x : Y.Argument)
    (h : is_argument s x ≡ true) (us : List Way) → AreStored k.block.first us →
    AreStored k.block.first (way_of s names x h ∷ us)
way_stored s names (Y.ByCopy type (Y.StoredNumber precision x)) h us all = all
way_stored s names (Y.ByCopy type (Y.StoredText x)) h us all = absurd (cc h)
way_stored s names (Y.ByCopy type (Y.StoredBit x)) h us all = absurd (cc h)
way_stored s names (Y.ByCopy type (Y.StoredPointer x)) h us all = absurd (cc h)
way_stored s names (Y.ByCopy type (Y.StoredOffset x)) h us all = absurd (cc h)
way_stored s names (Y.ByReference r) h us all = ((names r h).stored, all)
way_stored s names (Y.ByOffsetInParameter p parameter) h us all = absurd (cc h)
way_stored s names (Y.ByOffsetInAutomatic p) h us all = absurd (cc h)

pub ways_stored :
    {k : Setting} {φ : Layer} {φs : List Layer} (s : Scope) (names : Names s k φ φs) (xs : Y.Arguments)
    (h : are_arguments s xs ≡ true) → AreStored k.block.first (ways_of s names xs h)
ways_stored s names Y.NoArgument h = tt
ways_stored s names (Y.ArgumentThen first rest) h =
    let a = and_parts (is_argument s first) (are_arguments s rest) h in
    way_stored s names first a.0 (ways_of s names rest a.1) (ways_stored s names rest a.1)

-- ---- what is stored

-- a number waits in no words
pub sets_number :
    (s : Scope) (x : Y.Stored) (sets : ℕ) → is_stored s x ≡ true → behind_sets x sets ≡ sets
sets_number s (Y.StoredNumber precision x) sets h = refl
sets_number s (Y.StoredText x) sets h = refl
sets_number s (Y.StoredBit x) sets h = refl
sets_number s (Y.StoredPointer x) sets h = absurd (cc h)
sets_number s (Y.StoredOffset x) sets h = refl

-- but in a register
pub behind_number :
    (s : Scope) (x : Y.Stored) (need : ℕ) → is_stored s x ≡ true → behind_stored x need ≡ suc need
behind_number s (Y.StoredNumber precision x) need h = refl
behind_number s (Y.StoredText x) need h = absurd (cc h)
behind_number s (Y.StoredBit x) need h = absurd (cc h)
behind_number s (Y.StoredPointer x) need h = absurd (cc h)
behind_number s (Y.StoredOffset x) need h = absurd (cc h)
