-- A block with all that is known around its statements, and those that hold no others: each does what it means, by the
-- law of its form.
use Rattle.std.proofs.Common.{◌≡◌, ℕ, ◌+◌, ◌*◌, ◌^◌, ◌≤◌, List, length, true, false, refl, sym, ap, ◌∙◌, ◌⊎◌, inl, inr}
use Rattle.std.proofs.Common.{subst, arith}
use Rattle.std.specs.Prelude.{◌&&◌, ◌||◌, ◌==◌, Bool, max, not, suc}
use Rattle.std.proofs.lemmas.Bool.{and_parts, eqb-true, ltb-true, or_cases}
use Rattle.pli_typing.specs.TypedTree as Y
use Rattle.pli_coding.specs.Expressions.{argument_count, argument_words}
use Rattle.pli_coding.specs.Expressions as X
use Rattle.pli_meaning.specs.Control.{Label, is_among}
use Rattle.pli_coding.specs.Environments.{none_taken}
use Rattle.pli_coding.specs.Statements.{stmt_code}
use Rattle.run_steps.specs.Items.{Linked}
use Rattle.run_steps.specs.Reach.{cost}
use Rattle.program_runs.specs.Statements.{Block, Does, DoesWith, HasAct, set_aside, size_with}
use Rattle.program_runs.proofs.Gotos.{goto_does}
use Rattle.expression_runs.specs.Assignments.{assignment, setting_around}
use Rattle.expression_runs.specs.Laws as L
use Rattle.expression_runs.specs.Variables.{variable_of, whole}
use Rattle.expression_runs.proofs.Assignments.{assign_with}
use Rattle.expression_runs.proofs.Raises.{overflow_ends}
use Rattle.operator_runs.proofs.Divisors.{zero_divide_ends}
use Rattle.function_runs.specs.Returns.{return_of}
use Rattle.function_runs.proofs.ReturnValues as W
use Rattle.array_runs.specs.Arrays.{element}
use Rattle.array_runs.proofs.Assignments as A
use Rattle.element_runs.proofs.Outside.{subscripts_end}
use Rattle.test_runs.specs.Choices.{HasTestWith}
use Rattle.argument_runs.specs.Parameters.{parameter}
use Rattle.reference_runs.specs.ParameterAssignments as P
use Rattle.parameter_runs.proofs.Assigning.{around_assigned}
use Rattle.number_runs.specs.Knowledge.{AreAround, HasFrame, HasLists, Includes, IsReady, IsUnraised, KnowsGiven}
use Rattle.number_runs.specs.Knowledge.{KnowsNumbers, KnowsRaises, MayBeSet, given_statement, KnowsTexts}
use Rattle.number_runs.specs.Numbers.{Scope, are_arguments, arguments_need, grid_known, call_sets, gives_lists}
use Rattle.number_runs.specs.Numbers.{is_element, is_fixed, is_given, is_number, is_reference, is_variable}
use Rattle.number_runs.specs.Numbers.{are_numbers, numbers_set, subscripts_need}
use Rattle.number_runs.specs.Numbers.{number_needs, number_sets, reference_needs, reference_sets, test_needs}
use Rattle.number_runs.specs.Based.{is_word_type}
use Rattle.number_runs.specs.Numbers.{is_located}
use Rattle.number_runs.specs.Statements.{is_line, is_stored, stored_needs, stored_sets, is_allocation}
use Rattle.number_runs.specs.Statements.{is_area_variable, is_freeing}
use Rattle.area_runs.specs.Allocations.{allocation}
use Rattle.member_runs.specs.MemberAssignments as M
use Rattle.member_runs.specs.Members.{member_of}
use Rattle.area_assignments.specs.Copying.{copying}
use Rattle.area_assignments.specs.Emptying.{emptying}
use Rattle.area_freeings.specs.Freeing.{freeing}
use Rattle.number_runs.proofs.Arrays.{element_is}
use Rattle.scalar_runs.proofs.Fitting.{all_fits}
use Rattle.number_runs.proofs.Expressions.{subscripts_do, arguments_give, names_in, number_does}
use Rattle.number_runs.proofs.Turns.{telling_same}
use Rattle.number_runs.proofs.Variables.{fixed_is, parameter_is, variable_is, ways_are, ways_many, ways_of}
use Rattle.number_runs.proofs.Variables.{ways_stored}
use Rattle.number_runs.proofs.Based.{allocation_is, areas_are, freeing_is, through_is}

-- a block, with all that is known around its statements, and how many words are set aside
pub record Home : Type 0 where
  pub words : ℕ
  pub scope : Scope
  pub set : MayBeSet scope words
  -- none where what is BASED is reached
  pub plain : scope.locates ≡ true → words ≡ 0
  pub valued : Bool
  pub block : Block
  pub own : List Label
  pub most : ℕ
  pub left' : ℕ
  pub ready : IsReady scope valued block own most left'
  -- nothing waits behind them
  pub low : (c : scope.counts ≡ true) → (ready.loops c).behind ≤ words

-- without units raises end the run
pub none_raised :
    (s : Scope) (k : Block) (own : List Label) (most : ℕ) → IsUnraised k most → KnowsRaises s k own most
none_raised s k own most u =
    record {
      overflow = λ may words set labels line includes.
          overflow_ends (setting_around words k labels line most) (record {
            routines = u.routines;
            overflow = u.overflow;
            error = u.error;
            acts = u.acts;
            most = u.few;
          });
      divisor = λ may words set labels line includes.
          zero_divide_ends (setting_around words k labels line most) (record {
            routines = u.routines;
            divisor = u.divisor;
            error = u.error;
            acts = u.acts;
            most = u.few;
          });
      subscript = λ may words set labels line includes.
          subscripts_end (setting_around words k labels line most) (record {
            routines = u.routines;
            place = u.place;
            error = u.error;
            acts = u.acts;
            most = u.few;
          });
    }

-- ---- what the laws of single forms ask for

pub act_of : (h : Home) (line : ℕ) → is_line line ≡ true → HasAct h.block line
act_of h line is = record { line_fits = ltb-true line (2 ^ 31) is; acts = h.ready.acts }

pub paid_for :
    (h : Home) (stmt : Y.Stmt) (index : ℕ) →
    Linked h.block.call.surroundings.links h.block.call.code index (stmt_code h.block.environment
    (set_aside h.words) stmt) → size_with h.words h.block stmt + h.most ≤ cost h.block.call.code
paid_for h stmt index l = let inside = l.inside in let room = h.ready.room in omega (arith, inside, room)

-- around texts
pub texts_in :
    {s : Scope} {valued : Bool} {k : Block} {own : List Label} {most left' : ℕ} → IsReady s valued k own most left' →
    (words : ℕ) → MayBeSet s words → s.texts ≡ true → (labels : List Label) (line : ℕ) → Includes own labels →
    KnowsTexts s (setting_around words k labels line most)
texts_in r words set may labels line includes =
    let t = r.texts may in
    record {
      constants = t.constants;
      errors = t.errors words set labels line includes;
      waits = λ entries. t.waits words set line entries;
    }

-- around lists of arguments
abbrev given_in :
    {s : Scope} → {valued : Bool} → {k : Block} → {own : List Label} → {most left' : ℕ} →
    (r : IsReady s valued k own most left') → (words : ℕ) → (c : s.counts ≡ true) → s.gives ≡ true →
    (r.loops c).behind ≤ words → (labels : List Label) → (line : ℕ) → Includes own labels →
    KnowsGiven s (setting_around words k labels line most)
given_in {s} r words c may low labels line includes =
    let l = r.loops c in
    let g = l.given may in
    record {
      layer = l.layer;
      others = l.others;
      newest = l.newest;
      few = l.few;
      free = λ n at. l.free n (omega (arith, low, at));
      passable = g.passable;
      overflow = λ may' words' few waits.
          (l.raises waits).overflow may' words' (few, λ none. absurd (cc (sym c ∙ none))) labels line includes;
      divisor = λ may' words' few waits.
          (l.raises waits).divisor may' words' (few, λ none. absurd (cc (sym c ∙ none))) labels line includes;
      subscript = λ may' words' few waits.
          (l.raises waits).subscript may' words' (few, λ none. absurd (cc (sym c ∙ none))) labels line includes;
      functions = λ words' few waits level n is.
          (l.calls waits).functions words' (few, λ none. absurd (cc (sym c ∙ none))) labels line level n includes is;
      texts = λ may' words' few waits.
          let t = l.texts waits may' in
          let set : MayBeSet s words' = (few, λ none. absurd (cc (sym c ∙ none))) in
          record {
            constants = t.constants;
            errors = t.errors words' set labels line includes;
            waits = λ entries. t.waits words' set line entries;
          };
      reached = λ may' words' few waits. (l.reached waits) may' words' few labels line includes;
      given = λ words' waits level n need ways some stored free room is does.
          g.functions words' waits labels line level n need ways some stored includes free room is does;
    }

abbrev pub knows_in :
    {s : Scope} → {valued : Bool} → {k : Block} → {own : List Label} → {most left' : ℕ} →
    (r : IsReady s valued k own most left') → (words : ℕ) → MayBeSet s words →
    ((c : s.counts ≡ true) → (r.loops c).behind ≤ words) → (s.locates ≡ true → words ≡ 0) → (labels : List Label) →
    (line : ℕ) → Includes own labels → KnowsNumbers s (setting_around words k labels line most)
knows_in {s} {k = k} {most = most} r words set low plain labels line includes =
    record {
      begun = r.begun;
      overflow = λ may. r.raises.overflow may words set labels line includes;
      divisor = λ may. r.raises.divisor may words set labels line includes;
      subscript = λ may. r.raises.subscript may words set labels line includes;
      variables = r.variables;
      arrays = r.arrays;
      narrows = r.narrows;
      parameters = r.parameters;
      codes = r.codes;
      functions = λ level n is. r.calls.functions words set labels line level n includes is;
      texts = λ may. texts_in r words set may labels line includes;
      given = λ may.
          let c = and_parts s.gives s.counts may in given_in r words c.1 c.0 (low c.1) labels line includes;
      pointers = λ may. (r.based may).pointers;
      located = λ may p n m known declared.
          subst (λ w. L.Does (setting_around w k labels line most) 0 (Y.NumberIn (member_of p n m))) (sym (plain may))
          ((r.based may).reads labels line p n m includes known declared);
    }

abbrev pub knows :
    (h : Home) → (labels : List Label) → (line : ℕ) → Includes h.own labels →
    KnowsNumbers h.scope (setting_around h.words h.block labels line h.most)
knows h labels line includes = knows_in h.ready h.words h.set h.low h.plain labels line includes

-- the words that its frame has left
pub lists_in :
    {s : Scope} {valued : Bool} {k : Block} {own : List Label} {most left' : ℕ}
    (r : IsReady s valued k own most left') (words : ℕ) (set : MayBeSet s words)
    (low : (c : s.counts ≡ true) → (r.loops c).behind ≤ words) (plain : s.locates ≡ true → words ≡ 0)
    (labels : List Label) (line : ℕ) (includes : Includes own labels) (m n : ℕ) → m ≤ n → HasFrame r words n →
    HasLists (knows_in r words set low plain labels line includes) m
lists_in {s} r words set low plain labels line includes m n less sets may =
    let room = (sets (and_parts s.gives s.counts may).1).1 in
    omega (arith, less, room)

pub lists_at :
    (h : Home) (labels : List Label) (line : ℕ) (includes : Includes h.own labels) (m n : ℕ) → m ≤ n →
    HasFrame h.ready h.words n → HasLists (knows h labels line includes) m
lists_at h labels line includes m n less sets =
    lists_in h.ready h.words h.set h.low h.plain labels line includes m n less sets

pub has_test :
    (h : Home) (stmt : Y.Stmt) (condition : Y.Bit) (line index : ℕ) → is_line line ≡ true →
    test_needs condition ≤ h.block.registers →
    Linked h.block.call.surroundings.links h.block.call.code index (stmt_code h.block.environment
    (set_aside h.words) stmt) → HasTestWith h.words h.block stmt line index (test_needs condition) h.most
has_test h stmt condition line index is fits l =
    record {
      act = act_of h line is;
      registers = fits;
      held = h.ready.held;
      statement = l;
      paid = paid_for h stmt index l;
    }

-- ---- numbers that are stored

record Storing (s : Scope) (x : Y.Stored) : Type 0 where
  number : Y.Number
  is : x ≡ Y.StoredNumber 31 number
  known : is_number s number ≡ true
  needs : stored_needs x ≡ number_needs number
  sets : stored_sets x ≡ number_sets number

storing : (s : Scope) (x : Y.Stored) → is_stored s x ≡ true → Storing s x
storing s (Y.StoredNumber precision x) h =
    let a = and_parts (precision == 31) (is_number s x) h in
    record {
      number = x;
      is = ap (λ n. Y.StoredNumber n x) (eqb-true precision 31 a.0);
      known = a.1;
      needs = refl;
      sets = refl;
    }
storing s (Y.StoredText x) h = absurd (cc h)
storing s (Y.StoredBit x) h = absurd (cc h)
storing s (Y.StoredPointer x) h = absurd (cc h)
storing s (Y.StoredOffset x) h = absurd (cc h)

abbrev pub Coded : Home → List Label → Y.Stmt → (index : ℕ) → Type 0
Coded h labels stmt index =
    Linked h.block.call.surroundings.links h.block.call.code index (stmt_code h.block.environment
    (set_aside h.words) stmt) → DoesWith h.words h.block labels stmt index h.left'

assigned_does :
    (h : Home) (labels : List Label) (target : Y.Reference) (source : Y.Stored) (line index : ℕ) →
    Includes h.own labels → is_line line ≡ true → is_variable h.scope target ≡ true →
    is_stored h.scope source ≡ true →
    stored_needs source ≤ h.block.registers → HasFrame h.ready h.words (stored_sets source) →
    Coded h labels (Y.Assign target source line) index
assigned_does h labels target source line index includes is one two fits sets =
    let v = variable_is h.scope target one in
    let x = storing h.scope source two in
    let need = number_needs x.number in
    let needs = x.needs in
    let few = x.sets in
    let stmt = assignment v.spot x.number line in
    subst (λ t. Coded h labels (Y.Assign t source line) index) (sym v.is)
    (subst (λ q. Coded h labels (Y.Assign (whole v.spot) q line) index) (sym x.is)
    (λ l. assign_with h.words h.block labels v.spot x.number line index h.left' need h.most
    (record {
      act = act_of h line is;
      begun = h.ready.begun;
      number = h.ready.variables v.spot v.known;
      registers = omega (arith, fits, needs);
      held = h.ready.held;
      statement = l;
      paid = paid_for h stmt index l;
    })
    (number_does h.scope (setting_around h.words h.block labels line h.most) x.number
    (knows h labels line includes) x.known
    (lists_at h labels line includes (number_sets x.number) (stored_sets source) (omega (arith, few)) sets))))

received_does :
    (h : Home) (labels : List Label) (target : Y.Reference) (source : Y.Stored) (line index : ℕ) →
    Includes h.own labels → is_line line ≡ true → is_given h.scope target ≡ true →
    is_stored h.scope source ≡ true → max (stored_needs source) 1 ≤ h.block.registers →
    HasFrame h.ready h.words (stored_sets source) → Coded h labels (Y.Assign target source line) index
received_does h labels target source line index includes is one two fits sets =
    let v = parameter_is h.scope target one in
    let x = storing h.scope source two in
    let need = number_needs x.number in
    let needs = x.needs in
    let few = x.sets in
    let stmt = P.assignment v.spot x.number line in
    subst (λ t. Coded h labels (Y.Assign t source line) index) (sym v.is)
    (subst (λ q. Coded h labels (Y.Assign (parameter v.spot) q line) index) (sym x.is)
    (λ l. around_assigned h.words h.block labels v.spot x.number line index h.left' need h.most
    (record {
      act = act_of h line is;
      number = h.ready.parameters v.spot v.known;
      registers = omega (arith, fits, needs);
      some = omega (arith, fits);
      held = h.ready.held;
      statement = l;
      paid = paid_for h stmt index l;
    })
    (number_does h.scope (setting_around h.words h.block labels line h.most) x.number
    (knows h labels line includes) x.known
    (lists_at h labels line includes (number_sets x.number) (stored_sets source) (omega (arith, few)) sets))))

-- all of a variable, or of a parameter
scalar_does :
    (h : Home) (labels : List Label) (target : Y.Reference) (source : Y.Stored) (line index : ℕ) →
    Includes h.own labels → is_line line ≡ true →
    (is_variable h.scope target ≡ true) ⊎ (is_given h.scope target ≡ true) →
    is_stored h.scope source ≡ true → max (stored_needs source) 1 ≤ h.block.registers →
    HasFrame h.ready h.words (stored_sets source) → Coded h labels (Y.Assign target source line) index
scalar_does h labels target source line index includes is (inl one) two fits sets =
    assigned_does h labels target source line index includes is one two (omega (arith, fits)) sets
scalar_does h labels target source line index includes is (inr one) two fits sets =
    received_does h labels target source line index includes is one two fits sets

-- what is coded where no words are set aside
pub bare_coded :
    (h : Home) (labels : List Label) (stmt : Y.Stmt) (index : ℕ) → h.words ≡ 0 →
    (Linked h.block.call.surroundings.links h.block.call.code index (stmt_code h.block.environment none_taken stmt) →
    Does h.block labels stmt index h.left') → Coded h labels stmt index
bare_coded h labels stmt index none does =
    subst (λ w. Linked h.block.call.surroundings.links h.block.call.code index
    (stmt_code h.block.environment (set_aside w) stmt) → DoesWith w h.block labels stmt index h.left') (sym none) does

-- to what a pointer leads to: the value waits while it is found
located_does :
    (h : Home) (labels : List Label) (v : Y.Variable) (p : Y.Pointer) (part : Y.Part) (source : Y.Stored)
    (line index : ℕ) → Includes h.own labels → is_line line ≡ true → is_located h.scope is_word_type v p part ≡ true →
    is_stored h.scope source ≡ true → max (stored_needs source) 1 ≤ h.block.registers →
    {n : ℕ} → stored_sets source ≤ n → HasFrame h.ready h.words n →
    Coded h labels (Y.Assign (Y.Referring v (Y.LocatedBy p) part Y.NoNumber) source line) index
located_does h labels v p part source line index includes is one two fits {n} less sets =
    let w = through_is h.scope is_word_type v p part one in
    let x = storing h.scope source two in
    let needs = x.needs in
    let few = x.sets in
    let none = h.plain w.may in
    subst (λ t. Coded h labels (Y.Assign t source line) index) (sym w.is)
    (subst (λ q. Coded h labels (Y.Assign (member_of w.pointer w.based w.member) q line) index) (sym x.is)
    (bare_coded h labels (M.assignment w.pointer w.based w.member x.number line) index none
    (λ l. (h.ready.based w.may).assigned labels w.pointer w.based w.member x.number line index (number_needs x.number)
    includes w.known w.declared (ltb-true line (2 ^ 31) is) (omega (arith, fits, needs)) (omega (arith, fits)) l
    (subst (λ q. L.Does (setting_around q h.block labels line h.most) (number_needs x.number) x.number) none
    (number_does h.scope (setting_around h.words h.block labels line h.most) x.number (knows h labels line includes)
    x.known (lists_at h labels line includes (number_sets x.number) n (omega (arith, few, less)) sets))))))

-- into an element: the value waits while subscripts are computed
element_given :
    (h : Home) (labels : List Label) (v : Y.Variable) (part : Y.Part) (subscripts : Y.Numbers) (source : Y.Stored)
    (line index : ℕ) → Includes h.own labels → is_line line ≡ true →
    is_element h.scope is_fixed v part (X.given_in subscripts) ≡ true → are_numbers h.scope subscripts ≡ true →
    is_stored h.scope source ≡ true → stored_needs source ≤ h.block.registers →
    suc (subscripts_need subscripts) ≤ h.block.registers →
    HasFrame h.ready h.words (max (stored_sets source) (numbers_set subscripts)) →
    Coded h labels (Y.Assign (Y.Referring v Y.NotLocated part subscripts) source line) index
element_given h labels v part subscripts source line index includes is one numbers two fits more sets =
    let s = h.scope in
    let t = element_is s is_fixed v part subscripts one in
    let g = grid_known s t.spot in
    let x = storing s source two in
    let first = number_needs x.number in
    let second = suc (subscripts_need subscripts) in
    let needs = x.needs in
    let few = x.sets in
    let all = max (stored_sets source) (numbers_set subscripts) in
    let k = setting_around h.words h.block labels line h.most in
    let knows' = knows h labels line includes in
    subst (λ r. Coded h labels (Y.Assign r source line) index) (sym t.is)
    (subst (λ q. Coded h labels (Y.Assign (element t.spot subscripts) q line) index) (sym x.is)
    (λ l. A.number_stored h.words h.block labels t.spot g 31 subscripts x.number line index h.left' first second h.most
    (record {
      act = act_of h line is;
      begun = h.ready.begun;
      registers = omega (arith, fits, needs, more);
      held = h.ready.held;
      statement = l;
      paid = paid_for h (Y.Assign (element t.spot subscripts) (Y.StoredNumber 31 x.number) line) index l;
    })
    (h.ready.arrays t.may t.spot t.known) (fixed_is g.type t.passes) (knows'.subscript t.may)
    (all_fits k x.number first (number_does s k x.number knows' x.known
    (lists_at h labels line includes (number_sets x.number) all (omega (arith, few)) sets)))
    (subscripts_do s k subscripts knows' numbers
    (lists_at h labels line includes (numbers_set subscripts) all (omega arith) sets) g.bounds 1 second t.many
    (omega arith))))

pub given_does :
    (h : Home) (labels : List Label) (target : Y.Reference) (source : Y.Stored) (line index : ℕ) →
    Includes h.own labels → is_line line ≡ true → is_reference h.scope target ≡ true →
    is_stored h.scope source ≡ true →
    max (stored_needs source) (suc (reference_needs target)) ≤ h.block.registers →
    HasFrame h.ready h.words (max (stored_sets source) (reference_sets target)) →
    Coded h labels (Y.Assign target source line) index
given_does h labels (Y.Referring v Y.NotLocated part Y.NoNumber) source line index includes is one two fits sets =
    let r = Y.Referring v Y.NotLocated part Y.NoNumber in
    scalar_does h labels r source line index includes is (or_cases (is_variable h.scope r) (is_given h.scope r) one) two
    (omega (arith, fits))
    (λ c. let room = (sets c).1 in ((sets c).0, omega (arith, room)))
given_does h labels (Y.Referring v Y.NotLocated part (Y.NumberThen first rest)) source line index includes is one two
    fits sets =
    let a = and_parts (is_element h.scope is_fixed v part (suc (X.given_in rest)))
    (is_number h.scope first && are_numbers h.scope rest) one in
    element_given h labels v part (Y.NumberThen first rest) source line index includes is a.0 a.1 two
    (omega (arith, fits)) (omega (arith, fits)) (λ c. let room = (sets c).1 in ((sets c).0, omega (arith, room)))
given_does h labels (Y.Referring v (Y.LocatedBy p) part Y.NoNumber) source line index includes is one two fits sets =
    located_does h labels v p part source line index includes is one two (omega (arith, fits))
    {n = max (stored_sets source) (max 5 0)} (omega arith) sets
given_does h labels (Y.Referring v (Y.LocatedBy p) part (Y.NumberThen first rest)) source line index includes is one two
    fits sets =
    absurd (cc one)

pub returned_does :
    (h : Home) (labels : List Label) (type : Y.LeafType) (source : Y.Stored) (line index : ℕ) →
    Includes h.own labels → is_line line ≡ true → h.scope.own ≡ true → h.scope.returns ≡ true → h.valued ≡ true →
    is_fixed type ≡ true → is_stored h.scope source ≡ true → stored_needs source ≤ h.block.registers →
    HasFrame h.ready h.words (stored_sets source) → Coded h labels (Y.ReturnValue type source line) index
returned_does h labels type source line index includes is own may valued one two fits sets =
    let x = storing h.scope source two in
    let need = number_needs x.number in
    let needs = x.needs in
    let few = x.sets in
    let stmt = return_of x.number line in
    let v = (h.ready.home own).values may valued in
    subst (λ t. Coded h labels (Y.ReturnValue t source line) index) (sym (fixed_is type one))
    (subst (λ q. Coded h labels (Y.ReturnValue (Y.FixedLeaf 31) q line) index) (sym x.is)
    (λ l. W.return_with h.words h.block labels x.number line index h.left' need h.most
    (record {
      act = act_of h line is;
      begun = h.ready.begun;
      owner = v.owner;
      end = v.end;
      near = v.near;
      enough = v.enough;
      function = v.function;
      registers = omega (arith, fits, needs);
      held = h.ready.held;
      kind = v.kind;
      saved = v.saved;
      statement = l;
      paid = paid_for h stmt index l;
    })
    (number_does h.scope (setting_around h.words h.block labels line h.most) x.number
    (knows h labels line includes) x.known
    (lists_at h labels line includes (number_sets x.number) (stored_sets source) (omega (arith, few)) sets))))

-- ---- jumps and calls

jumps_does :
    (h : Home) (labels : List Label) (level : ℕ) (label : Label) (line index : ℕ) →
    AreAround h.block h.own labels → is_line line ≡ true → h.scope.own ≡ true →
    (level == h.scope.level) ≡ true → is_among label labels ≡ true → Coded h labels (Y.Goto level label line) index
jumps_does h labels level label line index placed is own same among =
    let r = h.ready.home own in
    let at = placed.at label among in
    subst (λ n. Coded h labels (Y.Goto n label line) index) (r.level ∙ sym (eqb-true level h.scope.level same))
    (λ l. goto_does h.block labels label line index h.left' (act_of h line is)
    (record {
      begun = h.ready.begun;
      carried = among;
      level = r.own;
      block = r.block;
      at = at.at;
      place = at.place;
      near = at.near;
    })
    l)

-- to a label of its own lists, or out
pub gone_does :
    (h : Home) (labels : List Label) (level : ℕ) (label : Label) (line index : ℕ) → AreAround h.block h.own labels →
    is_line line ≡ true →
    ((h.scope.own && ((level == h.scope.level) && is_among label labels)) || h.scope.is_outer level label) ≡ true →
    Coded h labels (Y.Goto level label line) index
gone_does h labels level label line index placed is to =
    let near = (level == h.scope.level) && is_among label labels in
    by (or_cases (h.scope.own && near) (h.scope.is_outer level label) to)
  where
    by :
        ((h.scope.own && ((level == h.scope.level) && is_among label labels)) ≡ true)
        ⊎ (h.scope.is_outer level label ≡ true) →
        Coded h labels (Y.Goto level label line) index
    by (inl own) =
        let a = and_parts h.scope.own ((level == h.scope.level) && is_among label labels) own in
        let b = and_parts (level == h.scope.level) (is_among label labels) a.1 in
        jumps_does h labels level label line index placed is a.0 b.0 b.1
    by (inr outer) =
        λ l. h.ready.jumps labels level label line index placed.includes outer (ltb-true line (2 ^ 31) is) l

pub calls_does :
    (h : Home) (labels : List Label) (number level line index : ℕ) → Includes h.own labels → is_line line ≡ true →
    h.scope.is_procedure level number ≡ true →
    Coded h labels (Y.CallProcedure (Y.Calling number level Y.NoArgument) line) index
calls_does h labels number level line index includes is known l =
    h.ready.calls.procedures h.words h.set labels level number line index includes known (ltb-true line (2 ^ 31) is) l

pub passed_does :
    (h : Home) (labels : List Label) (number level : ℕ) (first : Y.Argument) (rest : Y.Arguments) (line index : ℕ) →
    Includes h.own labels → is_line line ≡ true → gives_lists h.scope ≡ true →
    h.scope.is_given_procedure (suc (argument_count rest)) level number ≡ true →
    are_arguments h.scope (Y.ArgumentThen first rest) ≡ true →
    arguments_need (Y.ArgumentThen first rest) ≤ h.block.registers →
    HasFrame h.ready h.words (call_sets (Y.Calling number level (Y.ArgumentThen first rest))) →
    Coded h labels (Y.CallProcedure (Y.Calling number level (Y.ArgumentThen first rest)) line) index
passed_does h labels number level first rest line index includes is may taken given fits sets =
    let s = h.scope in
    let xs = Y.ArgumentThen first rest in
    let c = and_parts s.gives s.counts may in
    let l = h.ready.loops c.1 in
    let k = setting_around h.words h.block labels line h.most in
    let knows' = knows h labels line includes in
    let names = names_in s k knows' (knows'.given may) in
    let ways = ways_of s names xs given in
    let many = ways_many s names xs given in
    let room = (sets c.1).1 in
    let low = h.low c.1 in
    let need = arguments_need xs in
    subst (λ q. Coded h labels (Y.CallProcedure (Y.Calling number level q) line) index) (ways_are s names xs given)
    (λ code. subst (λ q. DoesWith h.words q labels (given_statement level number line ways) index h.left')
    (telling_same h.block l.layer l.others l.newest)
    ((l.given c.0).procedures h.words l.layer.waits labels level number line index need ways
    (omega (arith, many)) (ways_stored s names xs given) includes
    (λ n at. l.free n (omega (arith, at, low))) (omega (arith, room, many))
    (subst (λ n. s.is_given_procedure n level number ≡ true) (sym many) taken) (ltb-true line (2 ^ 31) is) fits code
    (arguments_give s k xs knows' (knows'.given may) h.words (h.words + argument_words * length ways) need l.layer.waits
    l.layer.waits given (omega arith) (omega arith) (omega (arith, room, many))
    (λ n at. l.free n (omega (arith, at, low))))))

-- ---- areas, and what is allocated in them

pub allocated_does :
    (h : Home) (labels : List Label) (all : List Y.Allocation) (line index : ℕ) → Includes h.own labels →
    is_line line ≡ true → is_allocation h.scope all ≡ true → Coded h labels (Y.Allocate all line) index
allocated_does h labels all line index includes is one =
    let x = allocation_is h.scope all one in
    subst (λ q. Coded h labels (Y.Allocate q line) index) (sym x.is)
    (bare_coded h labels (allocation x.based x.pointer x.area line) index (h.plain x.may)
    (λ l. (h.ready.based x.may).allocated labels x.based x.pointer x.area line index includes x.known x.declared
    x.placed (ltb-true line (2 ^ 31) is) l))

pub freed_does :
    (h : Home) (labels : List Label) (all : List Y.Freeing) (line index : ℕ) → Includes h.own labels →
    is_line line ≡ true → is_freeing h.scope all ≡ true → Coded h labels (Y.Free all line) index
freed_does h labels all line index includes is one =
    let x = freeing_is h.scope all one in
    subst (λ q. Coded h labels (Y.Free q line) index) (sym x.is)
    (bare_coded h labels (freeing x.pointer x.based line) index (h.plain x.may)
    (λ l. (h.ready.based x.may).freed labels x.pointer x.based line index includes x.known x.declared
    (ltb-true line (2 ^ 31) is) l))

pub copied_does :
    (h : Home) (labels : List Label) (target source : Y.Variable) (line index : ℕ) → Includes h.own labels →
    is_line line ≡ true → h.scope.locates ≡ true → is_area_variable h.scope target ≡ true →
    is_area_variable h.scope source ≡ true → Coded h labels (Y.AssignArea target source line) index
copied_does h labels target source line index includes is may one two =
    let x = areas_are h.scope target source one two in
    subst (λ t. Coded h labels (Y.AssignArea t source line) index) (sym x.target_is)
    (subst (λ t. Coded h labels (Y.AssignArea (variable_of x.target_spot) t line) index) (sym x.source_is)
    (bare_coded h labels (copying x.target_spot x.source_spot line) index (h.plain may)
    (λ l. (h.ready.based may).copied labels x.target_spot x.source_spot line index includes x.target_known
    x.source_known (ltb-true line (2 ^ 31) is) l)))

pub emptied_does :
    (h : Home) (labels : List Label) (target : Y.Variable) (line index : ℕ) → Includes h.own labels →
    is_line line ≡ true → h.scope.locates ≡ true → is_area_variable h.scope target ≡ true →
    Coded h labels (Y.EmptyArea target line) index
emptied_does h labels target line index includes is may one =
    let x = areas_are h.scope target target one one in
    subst (λ t. Coded h labels (Y.EmptyArea t line) index) (sym x.target_is)
    (bare_coded h labels (emptying x.target_spot line) index (h.plain may)
    (λ l. (h.ready.based may).emptied labels x.target_spot line index includes x.target_known
    (ltb-true line (2 ^ 31) is) l))

pub not_true : (q : Bool) → not q ≡ true → q ≡ false
not_true true h = absurd (cc h)
not_true false h = refl
