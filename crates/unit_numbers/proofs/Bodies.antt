-- The statements of each block do what they mean, as deep as blocks are entered, and the lists of what is called come
-- to their end, whatever units they have by then.
use Rattle.std.proofs.Common.{◌≡◌, ◌⊎◌, inl, inr, ℕ, zero, suc, ◌≤◌, List, [], ◌++◌}
use Rattle.std.proofs.Common.{Bool, Option, None, true, false, refl, sym, ◌∙◌, subst, arith}
use Rattle.std.specs.Prelude.{◌||◌, not}
use Rattle.std.proofs.lemmas.Bool.{or_cases}
use Rattle.std.proofs.lemmas.Bool.{or_left}
use Rattle.std.proofs.lemmas.List.Folds.{list_any-append}
use Rattle.pli_language.specs.Keywords.{same_bytes}
use Rattle.pli_typing.specs.TypedTree as Y
use Rattle.pli_meaning.specs.Control.{Label, is_among}
use Rattle.pli_meaning.specs.Executing.{labels_in}
use Rattle.pli_coding.specs.Environments.{none_taken}
use Rattle.pli_coding.specs.Images.{linked_code}
use Rattle.pli_coding.specs.Statements.{stmts_code}
use Rattle.code_marks.specs.CodeMarks.{MarkedOnce}
use Rattle.program_places.specs.Programs.{code_for, links_for}
use Rattle.program_runs.specs.Calls.{left_over}
use Rattle.program_runs.specs.Statements.{Block, Does, Outer}
use Rattle.expression_runs.specs.Assignments.{setting_around}
use Rattle.test_runs.specs.Tests.{Tests}
use Rattle.counter_runs.specs.Words.{telling}
use Rattle.number_runs.specs.Knowledge.{AreAround, AreStanding, HasFrame, Includes, IsHome, IsReady, Standing}
use Rattle.number_runs.specs.Knowledge.{most_set}
use Rattle.number_runs.specs.Numbers.{test_needs}
use Rattle.number_runs.specs.Statements.{is_statement, statement_needs, statement_sets}
use Rattle.number_runs.specs.Statements.{statements_need, statements_set}
use Rattle.number_runs.proofs.Expressions.{test_does}
use Rattle.number_runs.proofs.Homes.{knows_in}
use Rattle.number_runs.proofs.Labels.{placed_with}
use Rattle.number_runs.proofs.Statements.{body_does, form_does}
use Rattle.phase_runs.specs.Phases.{EachThrough, in_phase}
use Rattle.phase_runs.specs.Units.{AreBy, Past, phases_of}
use Rattle.number_runs.proofs.BeginsSaved.{begin_unneeded, begins_unneeded}
use Rattle.unit_numbers.specs.Calls.{has_jumps, scope_in}
use Rattle.unit_numbers.proofs.Homes.{Home, IsHome'}
use Rattle.unit_numbers.proofs.Mains.{Main, list_of, most_for, all_ons}
use Rattle.unit_numbers.proofs.Places.{listed_at}
use Rattle.pli_coding.specs.Procedures.{no_value}
use Rattle.run_steps.proofs.Linking.{size_append}
use Rattle.expression_runs.specs.Assignments.{setting_of}
use Rattle.number_runs.specs.Numbers.{is_test}
use Rattle.number_headlines.specs.Programs.{most_waiting}
use Rattle.error_units.specs.Errors.{ErrorGoes, ErrorRoutines}
use Rattle.error_units.proofs.Conditions.{end_goes}
use Rattle.jump_runs.specs.Functions.{FunctionDoes, IsFunctionList, behind_list}
use Rattle.unit_runs.specs.InnerLists.{ListDoes}
use Rattle.program_runs.specs.Statements.{EachDoes}
use Rattle.called_units.specs.Functions.{EndGoes, turn_aims}
use Rattle.called_units.proofs.Functions.{functions_turn}
use Rattle.called_units.proofs.Lists.{lists_end}
use Rattle.block_runs.proofs.CallStatements.{comes_map}
use Rattle.pli_meaning.specs.Codes.{no_value_code}
use Rattle.pli_meaning.specs.Raising.{error}
use Rattle.text_runs.specs.Texts.{error_aims}
use Rattle.unit_numbers.proofs.Arrays.{phase_at}
use Rattle.unit_numbers.proofs.Hosts.{Part}
use Rattle.unit_numbers.proofs.Listing.{Listing, inside_of, steps_do}
use Rattle.unit_numbers.proofs.Raises.{Knows, error_at, knows_of}
use Rattle.unit_numbers.proofs.Routines.{error_routines}
use Rattle.unit_numbers.proofs.Scenes.{Carries, EachBody, IsAt, IsEntered, IsVisited, at_told, block_of, ons_in}
use Rattle.unit_numbers.proofs.Scenes.{scope_of, told_outer}
use Rattle.unit_numbers.proofs.Visited.{IsSet, past_at, past_list, past_outer, visited_placed, writing}

-- ---- a block that is ready for its statements

unit_not : (q : Bool) → not q ≡ true → q ≡ false
unit_not true h = absurd (cc h)
unit_not false h = refl

ready :
    {program : Y.Program} (m : Main program) (h : Home) → IsHome' m h → (more blocks : ℕ) (c : Part) (o : Outer)
    (os : List Outer) (a : IsAt m h more blocks c o os) → (own : List Label) → a.free.layer.words ≤ most_set →
    ((n : ℕ) → a.free.layer.waits n ≡ None) →
    (c.unit ≡ false → IsHome (scope_of m c) c.valued (block_of m h o os) left_over) →
    Knows program (scope_of m c) (block_of m h o os) own →
    ((waits : ℕ → Option ℕ) →
    Knows program (scope_of m c) (telling waits a.free.layer a.free.below (block_of m h o os)) own) →
    IsReady (scope_of m c) c.valued (block_of m h o os) own (most_for program) left_over
ready m h ih more blocks c o os a own few clear home knows told =
    record {
      begun = a.begun;
      acts = ih.few;
      turns = a.turns;
      held = a.held;
      raises = knows.raises;
      variables = a.variables;
      arrays = λ may. a.arrays;
      narrows = λ may. a.narrows;
      parameters = λ x is. absurd (cc is);
      codes = λ may. a.code;
      based = λ may. absurd (cc may);
      calls = knows.calls;
      jumps = knows.jumps;
      begins = λ labels head body index includes is. absurd (cc is);
      texts = λ may. absurd (cc may);
      signals = knows.signals;
      puts = knows.puts;
      reads = λ may. absurd (cc may);
      loops = λ may. record {
        layer = a.free.layer;
        others = a.free.below;
        newest = a.free.newest;
        few = few;
        behind = 0;
        free = λ n behind. clear n;
        raises = λ waits. (told waits).raises;
        calls = λ waits. (told waits).calls;
        given = λ may'. absurd (cc may');
        jumps = λ waits. (told waits).jumps;
        begins = λ waits labels head body index includes is. absurd (cc is);
        texts = λ waits may. absurd (cc may);
        signals = λ waits. (told waits).signals;
        reached = λ waits may'. absurd (cc may');
        puts = λ waits. (told waits).puts;
        reads = λ waits may'. absurd (cc may');
      };
      room = omega arith;
      home = λ may. home (unit_not c.unit may);
    }

-- its frame has the words that its loops set aside
frame_left :
    {program : Y.Program} (m : Main program) (h : Home) (ih : IsHome' m h) (more blocks : ℕ) (c : Part) (o : Outer)
    (os : List Outer) (a : IsAt m h more blocks c o os) (own : List Label) (few : a.free.layer.words ≤ most_set)
    (clear : (n : ℕ) → a.free.layer.waits n ≡ None)
    (home : c.unit ≡ false → IsHome (scope_of m c) c.valued (block_of m h o os) left_over)
    (knows : Knows program (scope_of m c) (block_of m h o os) own)
    (told : (waits : ℕ → Option ℕ) →
    Knows program (scope_of m c) (telling waits a.free.layer a.free.below (block_of m h o os)) own) (count : ℕ) →
    count ≤ a.free.layer.words →
    HasFrame (ready m h ih more blocks c o os a own few clear home knows told) 0 count
unfolding ready
frame_left m h ih more blocks c o os a own few clear home knows told count less may =
    (omega arith, omega (arith, less))

-- it is one of either scope
pub by_writing :
    (f : Bool → Bool) {P : Type 0} → (f false || f true) ≡ true → ((writes : Bool) → f writes ≡ true → P) → P
by_writing f {P} h does = by (or_cases (f false) (f true) h)
  where
    by : (f false ≡ true) ⊎ (f true ≡ true) → P
    by (inl e) = does false e
    by (inr e) = does true e

-- ---- a statement of it

-- all that is known around its statements, and where loops go on
pub record IsKnown' {program : Y.Program} (m : Main program) (h : Home) (c : Part) (o : Outer) (os : List Outer)
    (own : List Label) : Type 0
  where
    pub ready : IsReady (scope_of m c) c.valued (block_of m h o os) own (most_for program) left_over
    pub framed : (count : ℕ) → count ≤ statements_set c.body → HasFrame ready 0 count

pub known_of :
    {program : Y.Program} (m : Main program) (h : Home) → IsHome' m h → (more blocks : ℕ) (c : Part) (o : Outer)
    (os : List Outer) (z : IsSet m h more blocks c o os) (own : List Label) → statements_set c.body ≤ most_waiting →
    Knows program (scope_of m c) (block_of m h o os) own →
    ((waits : ℕ → Option ℕ) →
    Knows program (scope_of m c) (telling waits z.at.free.layer z.at.free.below (block_of m h o os)) own) →
    IsKnown' m h c o os own
known_of {program} m h ih more blocks c o os z own waiting knows told =
    let words = z.words in
    let few : z.at.free.layer.words ≤ most_set = omega (arith, words, waiting) in
    record {
      ready = ready m h ih more blocks c o os z.at own few z.clear z.home knows told;
      framed = λ count less.
          frame_left m h ih more blocks c o os z.at own few z.clear z.home knows told count
          (omega (arith, words, less));
    }

pub plain_of :
    {program : Y.Program} {m : Main program} {h : Home} {c : Part} {o : Outer} {os : List Outer} {own : List Label} →
    IsKnown' m h c o os own → (labels : List Label) (stmt : Y.Stmt) (index : ℕ) →
    AreAround (block_of m h o os) own labels → is_statement (scope_of m c) c.valued labels stmt ≡ true →
    statement_needs stmt ≤ o.registers → statement_sets stmt ≤ statements_set c.body →
    Standing (block_of m h o os) stmt index → Does (block_of m h o os) labels stmt index left_over
plain_of {program} {m} {h} {c} {o} {os} {own} z labels stmt index around is fits sets at =
    let none = begin_unneeded (scope_of m c) c.valued labels stmt (λ head body. refl) is in
    form_does (scope_of m c) c.valued (block_of m h o os) own labels stmt index (most_for program) left_over z.ready
    (record { at = around.at; includes = around.includes }) is fits (omega (arith, none)) (z.framed (statement_sets
    stmt)
    sets) at

pub test_of :
    {program : Y.Program} {m : Main program} {h : Home} {c : Part} {o : Outer} {os : List Outer} {own : List Label} →
    IsKnown' m h c o os own → (labels : List Label) (line : ℕ) → Includes own labels → (condition : Y.Bit) →
    is_test (scope_of m c) condition ≡ true →
    Tests (setting_around 0 (block_of m h o os) labels line (most_for program)) (test_needs condition) condition
test_of {program} {m} {h} {c} {o} {os} {own} z labels line includes condition is =
    test_does (scope_of m c) (setting_around 0 (block_of m h o os) labels line (most_for program)) condition
    (knows_in z.ready 0 (omega arith, λ none. refl) (λ counts. (z.framed 0 (omega arith) counts).0) (λ may. refl) labels
    line includes) is (λ may. absurd (cc may))

-- ---- what is called, in a phase

-- units jump to labels of its list
own_carries :
    {program : Y.Program} {m : Main program} {h : Home} {c : Part} {o : Outer} {os : List Outer} →
    IsVisited m h c o os →
    Carries c (labels_in c.body ++ [])
own_carries {c = c} v unit jumps label e =
    list_any-append (same_bytes label) (labels_in c.body) []
    ∙ or_left (is_among label (labels_in c.body)) false
    (subst (λ all. is_among label (labels_in all) ≡ true) v.own e)

visited_known :
    MarkedOnce → {program : Y.Program} (m : Main program) (more : ℕ) → EachBody m more → (h : Home) → IsHome' m h →
    (blocks : ℕ) (c : Part) (o : Outer) (os : List Outer) (e : IsEntered m h (suc more) blocks c o os) →
    (unit : c.unit ≡ false) → IsVisited m h c o os → (writes : Bool) (past : Past) → AreBy (ons_in c o) past →
    IsKnown' m h (writing writes c) (past_outer past o) os (labels_in c.body ++ [])
visited_known once {program} m more each h ih blocks c o os e unit v writes past known =
    let c' = writing writes c in
    let o' = past_outer past o in
    let own = labels_in c.body ++ [] in
    let z = past_at e unit v writes past known in
    let told : (waits : ℕ → Option ℕ) →
    Knows program (scope_of m c') (telling waits z.at.free.layer z.at.free.below (block_of m h o' os)) own = λ waits.
    let o2 = told_outer o' waits z.at.free.layer z.at.free.below in
    knows_of once m h ih more blocks c' o2 os (at_told z.at waits)
    (λ other jumps. absurd (cc (sym unit ∙ other))) each own (own_carries v) in
    known_of m h ih (suc more) blocks c' o' os z own e.part.waiting
    (knows_of once m h ih more blocks c' o' os z.at (λ other jumps. absurd (cc (sym unit ∙ other))) each own
    (own_carries v))
    told

-- ERROR there
visited_error :
    MarkedOnce → {program : Y.Program} (m : Main program) (more : ℕ) → EachBody m more → (h : Home) → IsHome' m h →
    (blocks : ℕ) (c : Part) (o : Outer) (os : List Outer) (e : IsEntered m h (suc more) blocks c o os) →
    (unit : c.unit ≡ false) → IsVisited m h c o os → (past : Past) → AreBy (ons_in c o) past → (line : ℕ)
    (r : ErrorRoutines (links_for program) (linked_code (code_for program))) →
    ErrorGoes (Unit {0})
    (setting_of (block_of m h (past_outer past o) os) (labels_in c.body ++ []) line (most_for program)) r
visited_error once {program} m more each h ih blocks c o os e unit v past known line r =
    let own = labels_in c.body ++ [] in
    error_at (Unit {0}) once m h ih more blocks (writing false c) (past_outer past o) os
    (past_at e unit v false past known).at each own (own_carries v) 0 own (λ label among. among) line r

visited_listing :
    MarkedOnce → {program : Y.Program} (m : Main program) (more : ℕ) → EachBody m more → (h : Home) → IsHome' m h →
    (blocks : ℕ) (c : Part) (o : Outer) (os : List Outer) (e : IsEntered m h (suc more) blocks c o os) →
    (unit : c.unit ≡ false) → IsVisited m h c o os →
    Listing m c.caller c.all c.valued (block_of m h o os) (ons_in c o) (labels_in c.body ++ []) (statements_need c.body)
    (statements_set c.body)
visited_listing once {program} m more each h ih blocks c o os e unit v =
    record {
      small = ih.few;
      begun = e.at.begun;
      turns = e.at.turns;
      placed = visited_placed v;
      stands = λ x listed. listed_at x (all_ons m) (v.ons x listed).listed;
      held = e.part.needs;
      few = e.at.held;
      plain = λ past known labels stmt index around is fits sets at.
          let needs = e.part.needs in
          by_writing (λ writes. is_statement (scope_in program m.called c.all c.caller false writes) c.valued labels
          stmt) is (λ writes is'.
          plain_of (visited_known once m more each h ih blocks c o os e unit v writes past known) labels stmt
          index (record { at = around.at; includes = around.includes })
          (subst (λ u. is_statement (scope_in program m.called c.all c.caller u writes) c.valued labels stmt
          ≡ true) (sym unit) is')
          (omega (arith, fits, needs)) sets at);
      tests = λ past known labels line includes condition is.
          test_of (visited_known once m more each h ih blocks c o os e unit v false past known) labels line
          includes condition
          (subst (λ u. is_test (scope_in program m.called c.all c.caller u false) condition ≡ true) (sym unit) is);
    }

-- ---- as deep as they go

-- the labels of its own list
around_own :
    (k : Block) (body : Y.Stmts) (index : ℕ) → AreStanding k body index →
    AreAround k (labels_in body ++ []) (labels_in body ++ [])
around_own k body index at =
    record {
      at = placed_with k body index [] at (λ label among. absurd (cc among));
      includes = λ label e. e;
    }

-- a unit's statements
unit_each :
    MarkedOnce → {program : Y.Program} (m : Main program) (more : ℕ) → EachBody m more → (h : Home) → IsHome' m h →
    (blocks : ℕ) (c : Part) (o : Outer) (os : List Outer) → IsEntered m h (suc more) blocks c o os → c.unit ≡ true →
    EachDoes (block_of m h o os) (labels_in c.body ++ []) c.body c.index left_over
unit_each once {program} m more each h ih blocks c o os e unit =
    let a = e.at in
    let own = labels_in c.body ++ [] in
    let none : Carries c own = λ no jumps. absurd (cc (sym no ∙ unit)) in
    let knows = knows_of once m h ih more blocks c o os a e.inner each own none in
    let told : (waits : ℕ → Option ℕ) →
    Knows program (scope_of m c) (telling waits a.free.layer a.free.below (block_of m h o os)) own = λ waits.
    let o' = told_outer o waits a.free.layer a.free.below in
    knows_of once m h ih more blocks c o' os (at_told a waits)
    (λ is jumps.
    let i = e.inner is jumps in
    record {
      block = i.block;
      lands = i.lands;
      carried = i.carried;
      found = i.found;
      level = i.level;
      around = i.around;
    })
    each own none in
    let z = known_of m h ih (suc more) blocks c o os
    (record { at = a; words = e.words; clear = e.clear; home = λ no. absurd (cc (sym no ∙ unit)) }) own e.part.waiting
    knows told in
    let unneeded = begins_unneeded (scope_of m c) c.valued own c.body (λ head inner'. refl) (e.part.statements unit) in
    body_does (scope_of m c) c.valued (block_of m h o os) c.body c.index (most_for program) left_over z.ready
    (e.part.statements unit) e.part.needs (omega (arith, unneeded)) (z.framed (statements_set c.body) (omega arith))
    e.part.placed

-- the list of what is called, through phases
visited_each :
    MarkedOnce → {program : Y.Program} (m : Main program) (more : ℕ) → EachBody m more → (h : Home) → IsHome' m h →
    (blocks : ℕ) (c : Part) (o : Outer) (os : List Outer) → IsEntered m h (suc more) blocks c o os →
    (unit : c.unit ≡ false) → IsVisited m h c o os →
    EachThrough 0 (block_of m h o os) (phases_of (block_of m h o os) (ons_in c o)) (labels_in c.body ++ []) c.body
    c.index left_over
visited_each once m more each h ih blocks c o os e unit v =
    let k = block_of m h o os in
    steps_do (visited_listing once m more each h ih blocks c o os e unit v) (labels_in c.body ++ []) c.body c.index
    (around_own k c.body c.index e.part.placed) v.steps (omega arith) (omega arith) e.part.placed (λ x listed. listed)

visited_list :
    MarkedOnce → {program : Y.Program} (m : Main program) (more : ℕ) → EachBody m more → (h : Home) → IsHome' m h →
    (blocks : ℕ) (c : Part) (o : Outer) (os : List Outer) → IsEntered m h (suc more) blocks c o os →
    (unit : c.unit ≡ false) → IsVisited m h c o os →
    ListDoes (block_of m h o os) c.body c.index left_over
visited_list once m more each h ih blocks c o os e unit v =
    let l = visited_listing once m more each h ih blocks c o os e unit v in
    lists_end.list (block_of m h o os) (ons_in c o) c.body c.index left_over
    (inside_of l c.body c.index e.part.placed)
    (visited_each once m more each h ih blocks c o os e unit v) e.part.placed.linked

-- where a unit jumps out of ERROR behind a function's list, that goes on
visited_end :
    MarkedOnce → {program : Y.Program} (m : Main program) (more : ℕ) → EachBody m more → (h : Home) → IsHome' m h →
    (blocks : ℕ) (c : Part) (o : Outer) (os : List Outer) → IsEntered m h (suc more) blocks c o os →
    (unit : c.unit ≡ false) → IsVisited m h c o os → IsFunctionList (block_of m h o os) c.body c.index →
    (past : Past) → AreBy (ons_in c o) past →
    EndGoes (phase_at (block_of m h o os) past) (labels_in c.body ++ [])
    (behind_list (block_of m h o os) c.body c.index)
visited_end once {program} m more each h ih blocks c o os e unit v list' past known p numbers f among at =
    let k = phase_at (block_of m h o os) past in
    let own = labels_in c.body ++ [] in
    let line = o.around.line in
    let acts = p.state.world.acts in
    let routines = error_routines once program m.loadable in
    let here = list'.linked.inside in
    let n0 = size_append (stmts_code o.environment none_taken c.body) (no_value line) in
    comes_map (error_aims (Unit {0}) (setting_of k own line (most_for program)) acts) (turn_aims k own acts left_over)
    refl (error {R = Unit {0}} o.around no_value_code h.acts p.state)
    (λ c' f' v' r s q. absurd q)
    (λ c' f' v' height label s q. q)
    (λ c' f' v' r s q. absurd q)
    (end_goes k own c.body c.index (most_for program)
    (past_list (block_of m h o os) (ons_in c o) past (visited_placed v) known c.body c.index list') routines
    (visited_error once m more each h ih blocks c o os e unit v past known line routines) (omega (arith, here, n0)) p
    numbers f among at)

visited_function :
    MarkedOnce → {program : Y.Program} (m : Main program) (more : ℕ) → EachBody m more → (h : Home) → IsHome' m h →
    (blocks : ℕ) (c : Part) (o : Outer) (os : List Outer) → IsEntered m h (suc more) blocks c o os →
    (unit : c.unit ≡ false) → IsVisited m h c o os → IsFunctionList (block_of m h o os) c.body c.index →
    FunctionDoes (block_of m h o os) c.body c.index
visited_function once m more each h ih blocks c o os e unit v list' =
    let k = block_of m h o os in
    let l = visited_listing once m more each h ih blocks c o os e unit v in
    functions_turn k (ons_in c o) c.body c.index list' (inside_of l c.body c.index e.part.placed)
    (visited_each once m more each h ih blocks c o os e unit v)
    (λ first phase.
    subst (λ q. EndGoes (in_phase k q) (labels_in c.body ++ []) (behind_list k c.body c.index)) (sym phase.2)
    (visited_end once m more each h ih blocks c o os e unit v list' phase.0 phase.1))

pub each_body : MarkedOnce → {program : Y.Program} (m : Main program) (more : ℕ) → EachBody m more
each_body once m zero h blocks c o os ih e =
    let enough = e.at.enough in
    let allowed = e.at.begun.resumes.stands.allowed in
    absurd (omega (arith, enough, allowed))
each_body once {program} m (suc more) h blocks c o os ih e =
    let each = each_body once m more in
    record {
      each = λ unit. unit_each once m more each h ih blocks c o os e unit;
      list = λ unit. visited_list once m more each h ih blocks c o os e unit (e.visited unit);
      function = λ unit list'.
          visited_function once m more each h ih blocks c o os e unit (e.visited unit) list';
    }
