-- The main procedure's list comes to its end, whatever units it has by then.
use Rattle.std.proofs.Common.{◌≡◌, inl, inr, ℕ, zero, suc, ◌+◌, ◌^◌, ◌<◌, ◌≤◌, List, [], ◌++◌, length}
use Rattle.std.proofs.Common.{Bool, None, true, false, refl, sym, ap, ◌∙◌, subst, arith}
use Rattle.std.proofs.lemmas.Bool.{or_left}
use Rattle.std.proofs.lemmas.List.Folds.{list_any-append}
use Rattle.pli_language.specs.Keywords.{same_bytes}
use Rattle.pli_typing.specs.TypedTree as Y
use Rattle.pli_meaning.specs.Control.{Flow, Label, is_among}
use Rattle.pli_meaning.specs.Executing.{labels_in, list}
use Rattle.pli_meaning.specs.StorageState.{Activation, ancestor, height_of, most_activations, newest_height}
use Rattle.pli_meaning.specs.StorageState.{oncode_of}
use Rattle.code_marks.specs.CodeMarks.{MarkedOnce}
use Rattle.pli_serving.specs.ServiceState.{Services}
use Rattle.activation_relation.specs.Layers.{services_of}
use Rattle.run_steps.specs.Reach.{Comes, Family}
use Rattle.block_runs.specs.Bodies.{body_aims}
use Rattle.block_runs.proofs.CallStatements.{comes_map}
use Rattle.program_places.proofs.Blocks.{own_block}
use Rattle.program_places.proofs.Callees.{end_is}
use Rattle.program_places.proofs.Starts.{main_found}
use Rattle.program_runs.specs.Calls.{left_over}
use Rattle.program_runs.specs.Statements.{Does, IsBegun, Outer, as_outer}
use Rattle.program_runs.proofs.JumpsOut.{no_jump}
use Rattle.program_runs.proofs.Statements.{at_end, none_does}
use Rattle.expression_runs.specs.Assignments.{setting_around}
use Rattle.test_runs.specs.Tests.{Tests}
use Rattle.nested_calls.specs.Nested.{IsNested, parent_at}
use Rattle.number_runs.specs.Knowledge.{AreAround, Includes, IsHome, Standing}
use Rattle.number_runs.specs.Numbers.{test_needs}
use Rattle.number_runs.specs.Statements.{is_statement, statement_needs, statement_sets}
use Rattle.number_runs.specs.Statements.{statements_need, statements_set}
use Rattle.number_runs.proofs.Labels.{placed_with}
use Rattle.number_headlines.proofs.Running.{table_later}
use Rattle.number_headlines.proofs.Tables.{all_known, has_table}
use Rattle.unit_runs.specs.Bodies.{BodyDoes}
use Rattle.pli_language.specs.declared.condition.Condition.{Condition}
use Rattle.pli_meaning.specs.StorageState.{force}
use Rattle.phase_runs.specs.Phases.{AreBegun, Phases, in_phase, phase_aims}
use Rattle.phase_runs.specs.Units.{AreBy, Past, phases_of}
use Rattle.phase_runs.proofs.Lists.{list_through}
use Rattle.phase_runs.proofs.Units.{past_begun, phases_change}
use Rattle.unit_numbers.specs.Steps.{is_plain_step, is_step_test}
use Rattle.unit_numbers.proofs.Bodies.{IsKnown', by_writing, each_body, known_of, plain_of, test_of}
use Rattle.unit_numbers.proofs.Established.{InMain, in_main, list_placed, main_on, main_one, none_system, ons_placed}
use Rattle.unit_numbers.proofs.Established.{start_of}
use Rattle.unit_numbers.proofs.Homes.{Home, IsHome', home_block, home_is, home_told, plain_home, told_home}
use Rattle.unit_numbers.proofs.Hosts.{InForce, MayLand, Part}
use Rattle.unit_numbers.proofs.Listing.{Listing, inside_of, steps_do}
use Rattle.unit_numbers.proofs.Mains.{Alone, Main, all_ons, block_for, level_of, list_of, main_held, main_scope}
use Rattle.unit_numbers.proofs.Mains.{main_begun, main_layer}
use Rattle.unit_numbers.proofs.Mains.{most_for, ons_of, placed}
use Rattle.unit_numbers.proofs.Past.{alone_parent, main_alone, main_past, past_like}
use Rattle.unit_numbers.proofs.Places.{listed_at}
use Rattle.unit_numbers.proofs.Puts.{main_told}
use Rattle.unit_numbers.proofs.Raises.{Knows, knows_of}
use Rattle.number_headlines.proofs.CalledLandings.{made_stacks}
use Rattle.unit_numbers.proofs.Outer.{block_saves}
use Rattle.unit_numbers.proofs.Scenes.{IsAt, block_of, scope_of}
use Rattle.number_runs.specs.Variables.{words_in}
use Rattle.program_places.proofs.Labels.{label_of}
use Rattle.program_places.specs.Programs.{code_for, environment_for, links_for}
use Rattle.pli_coding.specs.Environments.{none_taken}
use Rattle.pli_coding.specs.Images.{linked_code}

-- ---- the main procedure's block

abbrev main_part : {program : Y.Program} → Main program → (writes : Bool) → Part
main_part m writes =
    record {
      caller = m.head;
      all = list_of m;
      unit = false;
      writes = writes;
      valued = false;
      body = list_of m;
      index = start_of m;
    }

abbrev main_outer : {program : Y.Program} → Main program → Home → Outer
main_outer m h = as_outer (home_block m h) []

main_oldest : {program : Y.Program} (m : Main program) (h : Home) → IsHome' m h → parent_at (home_block m h) 0 ≡ 1
main_oldest m h ih =
    let one = main_alone m h.input h.acts h.past ih.known in
    ap (λ xs. height_of (ancestor xs (newest_height xs) 0)) one.is
    ∙ alone_parent m.head.level one.bindings one.units (level_of m)

main_nested : {program : Y.Program} (m : Main program) (h : Home) → IsHome' m h → IsNested (home_block m h)
main_nested {program} m h ih =
    let one = main_alone m h.input h.acts h.past ih.known in
    let level = level_of m in
    let as' = (home_block m h).first.state.activations in
    let here : height_of (ancestor as' (newest_height as') 0) ≡ 1 = main_oldest m h ih in
    let newest : newest_height as' ≡ 1 = ap (λ xs. newest_height xs) one.is in
    record {
      own = refl;
      few = omega (arith, level);
      some = λ n less.
          let is : n ≡ 0 = omega (arith, less, level) in
          subst (λ j. 0 < height_of (ancestor as' (newest_height as') j)) (sym is) (omega (arith, here));
      same = λ outer n less high.
          let is : outer ≡ 0 = omega (arith, high, level) in
          ap (λ j. ancestor as' (height_of (ancestor as' (newest_height as') j)) n) is
          ∙ ap (λ j. ancestor as' j n) (here ∙ sym newest);
    }

-- a jump lands there
main_lands :
    MarkedOnce → {program : Y.Program} (m : Main program) (h : Home) → IsHome' m h →
    MayLand program (home_block m h) m.head (list_of m)
main_lands once {program} m h ih =
    let k0 = block_for m h.input h.acts in
    let e = environment_for program m.head in
    let like = past_like h.past k0.first in
    let same = made_stacks (main_layer m h.input h.acts) (words_in e) (main_begun m h.input h.acts) in
    record {
      registers = λ label among. block_saves program m.head m.body label among;
      entries = like.entries ∙ same.entries;
      edits = like.edits ∙ same.edits;
      top = ih.ends;
      number = refl;
      placed = λ label among.
          label_of (links_for program) (linked_code (code_for program)) (start_of m) e none_taken (list_of m)
          (list_placed once m h.input h.acts) label among;
    }

-- the unit in force is one of its own
main_force :
    MarkedOnce → {program : Y.Program} (m : Main program) (h : Home) → IsHome' m h → (d : Condition) →
    InForce m (home_block m h) false m.head (list_of m) d
main_force once {program} m h ih d = by (in_main m h.input h.acts h.past ih.known d)
  where
    one : Alone m.head.level (ons_of m) (home_block m h).first.state.activations
    one = main_alone m h.input h.acts h.past ih.known

    by : InMain m h.input h.acts h.past ih.known d → InForce m (home_block m h) false m.head (list_of m) d
    by (inl system) = inl system
    by (inr n) =
        inr (inl (record {
          newest = record {
            unit = n.unit;
            index = n.index;
            on = main_on once m (n.unit, n.index) n.listed;
            condition = n.condition;
            by = main_one m h.input h.acts h.past ih.known;
            forced = ap (λ xs. force xs d) one.is ∙ n.is;
          };
          itself = refl;
          level = refl;
          own = refl;
          parent = sym (ap (λ j. parent_at (home_block m h) j) (level_of m) ∙ main_oldest m h ih);
          lands = λ jumps. main_lands once m h ih;
        }))

main_at :
    MarkedOnce → {program : Y.Program} (m : Main program) (h : Home) → IsHome' m h → (writes : Bool) →
    IsAt m h h.acts most_activations (main_part m writes) (main_outer m h) []
main_at once {program} m h ih writes =
    let one = main_alone m h.input h.acts h.past ih.known in
    let long = ap (λ (as' : List Activation). length as') one.is in
    let first = ih.begun.acts in
    let of = main_told m h.input h.acts h.past ih.first in
    record {
      begun = ih.begun;
      source = refl;
      parts = refl;
      around = refl;
      enter = refl;
      turns = omega (arith, first);
      enough = omega (arith, first);
      held = omega arith;
      nested = main_nested m h ih;
      inside = omega arith;
      variables = ih.numbers;
      arrays = ih.arrays;
      narrows = ih.narrows;
      forced = λ d. main_force once m h ih d;
      settled = λ jumped outer d none. none_system m h.input h.acts h.past ih.known d none;
      oldest = main_oldest m h ih;
      idle = ih.begun.resumes.idle;
      code = subst (λ as'. oncode_of as' < 2 ^ 16) (sym one.is) (omega arith);
      told = record { code = of.code; links = of.links; constants = of.constants };
      free = ih.free;
      tabled = table_later program ih.begun.remains
          (λ head. has_table program head (all_known program.variables m.plain));
      depth = record { some = omega arith; all = omega (arith, long) };
    }

main_home :
    MarkedOnce → {program : Y.Program} (m : Main program) (h : Home) → IsHome' m h → (writes : Bool) →
    IsHome (scope_of m (main_part m writes)) false (block_of m h (main_outer m h) []) left_over
main_home once {program} m h ih writes =
    let found = main_found program (placed m) m.main in
    let end = end_is once program m.head m.body m.loadable found in
    record {
      level = refl;
      own = refl;
      block = own_block program m.head m.body None found;
      returns = λ e. inl (record {
        owner = refl;
        end = end.place;
        near = end.near;
        enough = omega arith;
        function = refl;
        begun = ih.begun;
        kind = refl;
        registers = omega arith;
      });
      values = λ may e. absurd (cc e);
    }

-- ---- its statements

main_knows :
    MarkedOnce → {program : Y.Program} (m : Main program) (h : Home) → IsHome' m h → (more : ℕ) → h.acts ≡ suc more →
    (writes : Bool) →
    Knows program (scope_of m (main_part m writes)) (block_of m h (main_outer m h) []) (labels_in (list_of m))
main_knows once m h ih more same writes =
    knows_of once m h ih more most_activations (main_part m writes) (main_outer m h) []
    (subst (λ n. IsAt m h n most_activations (main_part m writes) (main_outer m h) []) same
    (main_at once m h ih writes))
    (λ unit. absurd (cc unit)) (each_body once m more) (labels_in (list_of m)) (λ unit jumps label e. e)

-- with units that it has by then
main_known :
    MarkedOnce → {program : Y.Program} (m : Main program) (input : List ℕ) (more : ℕ) (past : Past) →
    suc more + 1 < 2 ^ 64 → IsBegun (block_for m input (suc more)) → AreBy (ons_of m) past → (writes : Bool) →
    IsKnown' m (plain_home input (suc more) past) (main_part m writes)
    (main_outer m (plain_home input (suc more) past)) [] (labels_in (list_of m))
unfolding main_at
main_known once {program} m input more past small b known writes =
    let is = home_is m input (suc more) past small b known in
    let ih = is.0 in
    let h = plain_home input (suc more) past in
    known_of m h ih (suc more) most_activations (main_part m writes) (main_outer m h) []
    (record {
      at = main_at once m h ih writes;
      words = ih.words;
      clear = is.1;
      home = λ own. main_home once m h ih writes;
    })
    (labels_in (list_of m)) m.waiting (main_knows once m h ih more refl writes)
    (λ waits.
    main_knows once m (told_home h waits ih.free.layer ih.free.below) (home_told ih waits) more refl writes)

main_plain :
    MarkedOnce → {program : Y.Program} (m : Main program) (input : List ℕ) (acts : ℕ) → acts + 1 < 2 ^ 64 →
    IsBegun (block_for m input acts) → (past : Past) → AreBy (ons_of m) past → (labels : List Label) (stmt : Y.Stmt)
    (index : ℕ) → AreAround (block_for m input acts) (labels_in (list_of m)) labels →
    is_plain_step program m.called m.head (list_of m) false labels stmt ≡ true →
    statement_needs stmt ≤ statements_need (list_of m) → statement_sets stmt ≤ statements_set (list_of m) →
    Standing (block_for m input acts) stmt index → Does (main_past m input acts past) labels stmt index left_over
main_plain once m input zero small b past known labels stmt index around is fits sets at =
    none_does (main_past m input zero past) labels stmt index left_over
    (past_begun (block_for m input zero) (ons_of m) past (ons_placed m) known b) refl
main_plain once {program} m input (suc more) small b past known labels stmt index around is fits sets at =
    let held = main_held m in
    by_writing (λ writes. is_statement (main_scope m writes) false labels stmt) is
    (λ writes is'.
    plain_of (main_known once m input more past small b known writes) labels stmt index
    (record { at = around.at; includes = around.includes }) is' (omega (arith, fits, held)) sets at)

main_tests :
    MarkedOnce → {program : Y.Program} (m : Main program) (input : List ℕ) (acts : ℕ) → acts + 1 < 2 ^ 64 →
    IsBegun (block_for m input acts) → (past : Past) → AreBy (ons_of m) past → (labels : List Label) (line : ℕ) →
    Includes (labels_in (list_of m)) labels → (condition : Y.Bit) →
    is_step_test program m.called m.head (list_of m) condition ≡ true →
    Tests (setting_around 0 (main_past m input acts past) labels line (most_for program)) (test_needs condition)
    condition
main_tests once {program} m input zero small b past known labels line includes condition is =
    λ p numbers taken c index f o same registers l paid there.
    let begun = past_begun (block_for m input zero) (ons_of m) past (ons_placed m) known b in
    let more = o.later.acts in
    let few = o.stands.allowed in
    let some = begun.acts in
    absurd (omega (arith, some, more, few))
main_tests once m input (suc more) small b past known labels line includes condition is =
    test_of (main_known once m input more past small b known false) labels line includes condition is

main_listing :
    MarkedOnce → {program : Y.Program} (m : Main program) (input : List ℕ) (acts : ℕ) → acts + 1 < 2 ^ 64 →
    IsBegun (block_for m input acts) →
    Listing m m.head (list_of m) false (block_for m input acts) (ons_of m) (labels_in (list_of m))
    (statements_need (list_of m))
    (statements_set (list_of m))
main_listing once {program} m input acts small b =
    let some = b.acts in
    record {
      small = small;
      begun = b;
      turns = omega (arith, some);
      placed = ons_placed m;
      stands = λ x listed. listed_at x (all_ons m) (main_on once m x listed).listed;
      held = main_held m;
      few = omega arith;
      plain = λ past known labels stmt index around is fits sets at.
          main_plain once m input acts small b past known labels stmt index around is fits sets at;
      tests = λ past known labels line includes condition is.
          main_tests once m input acts small b past known labels line includes condition is;
    }

-- ---- the list

abbrev phases_for : {program : Y.Program} → Main program → (input : List ℕ) → (acts : ℕ) → Phases
phases_for m input acts = phases_of (block_for m input acts) (ons_of m)

-- the procedure's own block in a phase comes to its end, and no jump leaves it
phase_ends :
    {program : Y.Program} (m : Main program) (input : List ℕ) (acts : ℕ) →
    AreBegun (block_for m input acts) (phases_for m input acts) →
    (since c : ℕ) (f : Family) (v : Services) (flow : Flow (Unit {0})) →
    Comes (block_for m input acts).call.code c f v
    (phase_aims (block_for m input acts) (phases_for m input acts) [] since (block_for m input acts).call.end left_over
    left_over) flow →
    Comes (block_for m input acts).call.code c f v (body_aims (block_for m input acts).call left_over) flow
phase_ends m input acts begun since c f v flow o =
    let k = block_for m input acts in
    comes_map (phase_aims k (phases_for m input acts) [] since k.call.end left_over left_over)
    (body_aims k.call left_over) refl flow
    (λ c' f' v' r' s q.
    at_end {k = in_phase k q.first} (begun q.first q.is) refl (omega arith) q.holds)
    (λ c' f' v' height label s q.
    no_jump {k = in_phase k q.first} {acts = since} {c = c'} {f = f'} {v = v'} {height = height} {label = label} {s = s}
    refl q.holds)
    (λ c' f' v' r' s q. q.holds.to)
    o

pub main_ends :
    MarkedOnce → {program : Y.Program} (m : Main program) (input : List ℕ) (acts : ℕ) → acts + 1 < 2 ^ 64 →
    IsBegun (block_for m input acts) → BodyDoes (block_for m input acts) m.body (start_of m) left_over
main_ends once {program} m input acts few b p numbers f o there =
    let k = block_for m input acts in
    let at = list_placed once m input acts in
    let l = main_listing once m input acts few b in
    let inside = at.linked.inside in
    let z = inside_of l (list_of m) (start_of m) at in
    let none : AreAround k (labels_in (list_of m)) (labels_in (list_of m) ++ []) = record {
      at = placed_with k (list_of m) (start_of m) [] at (λ label among. absurd (cc among));
      includes = λ label e.
          list_any-append (same_bytes label) (labels_in (list_of m)) []
          ∙ or_left (is_among label (labels_in (list_of m))) false e;
    } in
    phase_ends m input acts z.begun p.state.world.acts 0 f (services_of p) (list k.around m.body acts p.state)
    (list_through 0 k (phases_for m input acts) [] (list_of m) (start_of m) left_over z
    (steps_do l (labels_in (list_of m) ++ []) (list_of m) (start_of m) none m.steps (omega arith)
    (omega arith) at (λ e h. h))
    at.linked k.first (phases_change k (ons_of m)).first p numbers 0 left_over f o
    (omega arith, omega (arith, inside)) there)
