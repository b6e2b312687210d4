-- Calls with a list of arguments in a block of the class do what they mean, if the statements of blocks that may be
-- entered one level less deep do.
use Rattle.std.proofs.Common.{◌≡◌, ℕ, zero, suc, ◌+◌, ◌*◌, ◌^◌, ◌<◌, ◌≤◌, List, [], ◌++◌, length, Bool, true, false}
use Rattle.std.proofs.Common.{refl, sym, ap, subst, arith}
use Rattle.std.specs.Prelude.{nat_le, nat_lt, Option}
use Rattle.std.proofs.lemmas.Bool.{le-leb, leb-true}
use Rattle.pli_language.specs.declared.condition.Condition.TheVariants as C
use Rattle.pli_typing.specs.TypedTree as Y
use Rattle.pli_meaning.specs.Control.{Label}
use Rattle.pli_meaning.specs.DeclaredShapes.{variables_of_block}
use Rattle.pli_meaning.specs.StorageState.{automatic_in_use, most_activations, most_automatic}
use Rattle.pli_coding.specs.Allocating.{act_code}
use Rattle.pli_coding.specs.Assembly.{size_of}
use Rattle.pli_coding.specs.Environments.{Environment}
use Rattle.pli_coding.specs.Images.{linked_code}
use Rattle.pli_coding.specs.Locating.{table_number}
use Rattle.pli_coding.specs.Statements.{stmt_code}
use Rattle.code_marks.specs.CodeMarks.{MarkedOnce}
use Rattle.activation_relation.specs.FrameLaws.{with_waits}
use Rattle.activation_relation.specs.Layers.{Point}
use Rattle.run_steps.specs.Items.{Linked}
use Rattle.run_steps.proofs.Jumps.{back_of}
use Rattle.run_steps.proofs.Linking.{size_append}
use Rattle.program_places.specs.Programs.{code_for, environment_for, links_for, procedures_index, program_environment}
use Rattle.program_runs.specs.Calls.{left_over}
use Rattle.program_runs.specs.Statements.{Block, DoesWith, set_aside, IsAmong}
use Rattle.expression_runs.specs.Assignments.{setting_around}
use Rattle.expression_runs.specs.Laws as L
use Rattle.expression_runs.specs.Variables.{Spot, number_declared}
use Rattle.nested_calls.specs.Nested.{parent_at}
use Rattle.list_calls.specs.Arguments.{EachGives, Way, ComeTo}
use Rattle.list_calls.specs.ListCalls.{IsListedCall, copies_take}
use Rattle.list_calls.specs.ListFunctions.{IsListedValue}
use Rattle.list_calls.specs.ListKnown.{AreStored}
use Rattle.list_calls.proofs.Telling.{telling_named}
use Rattle.list_calls.proofs.ListCode.{call_coded, given_list, giving_in, last_of}
use Rattle.list_calls.proofs.ListFunctions.{deep_function_ends, full_function_ends}
use Rattle.list_calls.proofs.ListFunctions.{beside_function_ends}
use Rattle.list_calls.proofs.ListLimits.{deep_call_ends, full_call_ends, beside_call_ends}
use Rattle.pli_meaning.specs.Executing.{labels_in}
use Rattle.number_runs.specs.Knowledge.{Includes, IsPassable, given_number, given_statement}
use Rattle.number_runs.specs.Numbers.{is_known}
use Rattle.number_runs.proofs.Received.{stored_told}
use Rattle.number_headlines.proofs.Deciding.{by_decision, entry_low}
use Rattle.number_headlines.proofs.Inner.{Inner, inner_is, precision_of}
use Rattle.number_headlines.proofs.ListPlaces.{function_taking, procedure_taking}
use Rattle.number_headlines.proofs.Mains.{Main, most_for}
use Rattle.number_headlines.proofs.Running.{EachGiven, IsEntered, IsRunning, Running, around_for, block_of_run}
use Rattle.number_headlines.proofs.Running.{environment_of_run, told_run, told_running}
use Rattle.number_headlines.proofs.CalledLandings.{entered_leaving, with_outers}
use Rattle.number_headlines.proofs.Landings.{EachBody, HasLandings, own_included, told_landings}
use Rattle.number_headlines.proofs.ListHands.{callers_of}
use Rattle.number_headlines.proofs.ListJumps.{listed_jump_call_does, listed_jump_function_does}
use Rattle.number_headlines.proofs.ListLandings.{given_landings}
use Rattle.number_headlines.proofs.Based.{tabled_at}
use Rattle.number_headlines.proofs.Telling.{serial_given}
use Rattle.number_headlines.specs.Jumps.{is_jumped_to}
use Rattle.number_headlines.specs.Programs.{scope_of}
use Rattle.std.proofs.lemmas.Bool.Decides.{nat_tests}
use Rattle.list_calls.specs.Lists.{Passing}
use Rattle.number_runs.specs.Variables.{bytes_of}
use Rattle.jump_runs.proofs.Numbers.{alone}
use Rattle.number_headlines.proofs.ListEntered.{Given, given_entered, listed_beside, system_there}
use Rattle.number_headlines.proofs.ListMade.{Arrived, beside_in, full_beside}
use Rattle.number_headlines.proofs.ListSites.{CopiesFit, IsSite, Site', listed_at, listed_declared}
use Rattle.number_headlines.proofs.ListSites.{listed_in, own_of, received_by}

site_again :
    {k : Block} {ns : List ℕ} {t : Site'} → IsSite k ns t → (call : ℕ) →
    IsSite k ns (record t { call = call })
site_again is call =
    record { newest = is.newest; few = is.few; free = is.free; room = is.room; many = is.many; some = is.some }

used_within : (used : ℕ) → used ≤ most_automatic → nat_le used most_automatic ≡ true
used_within used few = le-leb used most_automatic few

past : (used : ℕ) → nat_le used most_automatic ≡ false → most_automatic < used
past used e = grind (arith, e, nat_tests)

-- a call that came to a point with what is passed
abbrev arrived :
    {program : Y.Program} → {m : Main program} → {input : List ℕ} → {acts : ℕ} → {valued : Bool} → {more b : ℕ} →
    {a : Running} → IsRunning m input acts valued (suc more) a (suc b) → {ns : List ℕ} → {v : Bool} →
    {level number : ℕ} → (i : Inner m a.head ns v level number) → (t : Site') →
    IsSite (block_of_run program input acts valued (suc more) a) ns t →
    CopiesFit (block_of_run program input acts valued (suc more) a) t.ways → (p : Point) → (numbers : ℕ → ℕ) →
    (ys : List Passing) → IsAmong (block_of_run program input acts valued (suc more) a) numbers p →
    ComeTo t.ways ys → Arrived m input acts valued more b a ns v level number
arrived h i t is fits p numbers ys o come =
    record {
      caller = h;
      inner = i;
      site = t;
      is = is;
      fits = fits;
      point = p;
      numbers = numbers;
      passed = ys;
      among = o;
      come = come;
    }

given_value_by :
    MarkedOnce → {program : Y.Program} (m : Main program) (input : List ℕ) (acts : ℕ) (valued : Bool) (more b : ℕ)
    (a : Running) → acts + 1 < 2 ^ 64 → IsRunning m input acts valued (suc more) a (suc b) →
    HasLandings m a → EachBody m input acts more → (labels : List Label) →
    (is_jumped_to program m.called a.head.level a.head.number ≡ true → Includes (labels_in a.body) labels) →
    (line level number need : ℕ) {ns : List ℕ} → Inner m a.head ns true level number → (t : Site') →
    IsSite (block_of_run program input acts valued (suc more) a) ns t →
    AreStored (block_of_run program input acts valued (suc more) a).first t.ways →
    EachGives (setting_around t.words (block_of_run program input acts valued (suc more) a) labels line
    (most_for program)) need t.layer t.others t.words (t.words + 6 * length t.ways) t.layer.waits t.ways →
    L.Does (setting_around t.words (block_of_run program input acts valued (suc more) a) labels line
    (most_for program)) need (given_number level number t.ways)
given_value_by once {program} m input acts valued more b a few h lands each labels named line level number need {ns} i t
    site stored give =
    let k = block_of_run program input acts valued (suc more) a in
    let z = setting_around t.words k labels line (most_for program) in
    let u = listed_in i more k t in
    let inside = i.inside in
    let own = own_of i site.some in
    let stands = function_taking once program i.head i.body (precision_of i) ns input acts (parent_at k level) t.call
    (around_for program more) m.loadable (received_by i) (omega (arith, inside)) own few in
    let within = stands.stands.inside in
    let low = entry_low (program_environment program) i.head.number program.procedures (procedures_index program) in
    let used = automatic_in_use k.first.state.living + copies_take t.ways in
    let bytes = bytes_of (beside_in program i.head) in
    let is : IsListedValue z u more = record {
      function = stands;
      declared = listed_declared m h i t site;
      words = refl;
      type = Y.FixedLeaf (precision_of i);
      found = received_by i;
      enter = refl;
      around = refl;
      most = omega (arith, within, low);
    } in
    subst (λ n. L.Does z need (given_number level n t.ways)) i.numbered
    (by_decision (nat_lt (length k.first.state.activations) most_activations)
    (λ shallow.
    by_decision (nat_le used most_automatic)
    (λ fits.
    by_decision (nat_le (used + bytes) most_automatic)
    (λ whole.
    let all = leb-true (used + bytes) most_automatic whole in
    listed_jump_function_does z u need more is (record { shallow = shallow; limit = fits }) give
    (λ call p numbers ys o come.
    let there = arrived h i (record t { call = call }) (site_again site call) fits p numbers ys o come in
    (listed_beside m there all, system_there there C.Error))
    (λ call p numbers ys o come coded b'.
    let r = listed_at i more k (record t { call = call }) p numbers ys in
    let os = callers_of k (listed_in i more k (record t { call = call })) p numbers ys labels in
    let at : Given m input acts valued more b a ns true level number = record {
      caller = h;
      inner = i;
      site = record t { call = call };
      is = site_again site call;
      shallow = shallow;
      fits = fits;
      all = all;
      stored = stored;
      point = p;
      numbers = numbers;
      passed = ys;
      among = o;
      come = come;
      coded = coded;
      begun = alone (block_of_run program input acts true more r) os b';
    } in
    each true (with_outers os r) b (entered_leaving r os (given_entered once m at) b')
    (given_landings m at lands labels named)))
    (λ over.
    beside_function_ends z u need more is (record { shallow = shallow; limit = fits }) give
    (λ call p numbers ys o come.
    full_beside m (arrived h i (record t { call = call }) (site_again site call) fits p numbers ys o come) few
    (past (used + bytes) over))))
    (λ full.
    full_function_ends z u need more is
    (record { shallow = shallow; used = used_within (automatic_in_use k.first.state.living) h.free.used; limit = full })
    give))
    (λ deep. deep_function_ends z u need more is deep give))

given_call_by :
    MarkedOnce → {program : Y.Program} (m : Main program) (input : List ℕ) (acts : ℕ) (valued : Bool) (more b : ℕ)
    (a : Running) → acts + 1 < 2 ^ 64 → IsRunning m input acts valued (suc more) a (suc b) →
    HasLandings m a → EachBody m input acts more → (labels : List Label) →
    (is_jumped_to program m.called a.head.level a.head.number ≡ true → Includes (labels_in a.body) labels) →
    (level number line index need : ℕ) {ns : List ℕ} → Inner m a.head ns false level number → (t : Site') →
    IsSite (block_of_run program input acts valued (suc more) a) ns t →
    AreStored (block_of_run program input acts valued (suc more) a).first t.ways → line < 2 ^ 31 →
    need ≤ (block_of_run program input acts valued (suc more) a).registers →
    Linked (links_for program) (linked_code (code_for program)) index
    (stmt_code (environment_of_run program a) (set_aside t.words) (given_statement level number line t.ways)) →
    EachGives (setting_around t.words (block_of_run program input acts valued (suc more) a) labels line
    (most_for program)) need t.layer t.others t.words (t.words + 6 * length t.ways) t.layer.waits t.ways →
    DoesWith t.words (block_of_run program input acts valued (suc more) a) labels
    (given_statement level number line t.ways) index left_over
given_call_by once {program} m input acts valued more b a few h lands each labels named level number line index need
    {ns} i t0 site0 stored less room l give =
    let k = block_of_run program input acts valued (suc more) a in
    let z = setting_around t0.words k labels line (most_for program) in
    let u0 = listed_in i more k t0 in
    let inside = i.inside in
    let own = own_of i site0.some in
    let one = act_code line in
    let list = given_list z u0 0 in
    let giving = giving_in k u0 in
    let last = last_of u0 in
    let l0 = subst (λ n. Linked (links_for program) (linked_code (code_for program)) index
    (stmt_code (environment_of_run program a) (set_aside t0.words) (given_statement level n line t0.ways)))
    (sym i.numbered) l in
    let eq = ap (λ c. one ++ c) (call_coded z u0 0) in
    let l' = subst (Linked (links_for program) (linked_code (code_for program)) index) eq l0 in
    let size = ap (λ c. size_of c) eq in
    let n0 = size_append one (list ++ (giving ++ last)) in
    let n1 = size_append list (giving ++ last) in
    let n2 = size_append giving last in
    let call = index + size_of one + size_of list + size_of giving in
    let t = record t0 { call = call } in
    let site = site_again site0 call in
    let u = listed_in i more k t in
    let used = automatic_in_use k.first.state.living + copies_take t.ways in
    let bytes = bytes_of (beside_in program i.head) in
    let end = l0.inside in
    let is : IsListedCall k u line index need (most_for program) more = record {
      act = record { line_fits = less; acts = few };
      callee = procedure_taking once program i.head i.body ns input acts (parent_at k level) call
          (around_for program more) m.loadable (received_by i) (omega (arith, inside)) own
          (back_of giving last (back_of list (giving ++ last) (back_of one (list ++ (giving ++ last)) l'))) few;
      declared = listed_declared m h i t site;
      found = received_by i;
      enter = refl;
      around = refl;
      registers = room;
      held = omega arith;
      statement = l0;
      call = omega (arith, size, n0, n1, n2);
      paid = omega (arith, end);
    } in
    subst (λ n. DoesWith t.words k labels (given_statement level n line t.ways) index left_over) i.numbered
    (by_decision (nat_lt (length k.first.state.activations) most_activations)
    (λ shallow.
    by_decision (nat_le used most_automatic)
    (λ fits.
    by_decision (nat_le (used + bytes) most_automatic)
    (λ whole.
    let all = leb-true (used + bytes) most_automatic whole in
    listed_jump_call_does k u labels line index left_over need (most_for program) more is
    (record { shallow = shallow; limit = fits }) give
    (λ p numbers ys o come. listed_beside m (arrived h i t site fits p numbers ys o come) all)
    (λ p numbers ys o come b'.
    let r = listed_at i more k t p numbers ys in
    let os = callers_of k u p numbers ys labels in
    let at : Given m input acts valued more b a ns false level number = record {
      caller = h;
      inner = i;
      site = t;
      is = site;
      shallow = shallow;
      fits = fits;
      all = all;
      stored = stored;
      point = p;
      numbers = numbers;
      passed = ys;
      among = o;
      come = come;
      coded = is.callee.coded;
      begun = alone (block_of_run program input acts false more r) os b';
    } in
    each false (with_outers os r) b (entered_leaving r os (given_entered once m at) b')
    (given_landings m at lands labels named)))
    (λ over.
    beside_call_ends k u labels line index left_over need (most_for program) more is
    (record { shallow = shallow; limit = fits }) give
    (λ p numbers ys o come.
    full_beside m (arrived h i t site fits p numbers ys o come) few (past (used + bytes) over))))
    (λ full.
    full_call_ends k u labels line index left_over need (most_for program) more is
    (record {
      shallow = shallow;
      used = used_within (automatic_in_use k.first.state.living) h.free.used;
      limit = full;
    }) give))
    (λ deep. deep_call_ends k u labels line index left_over need (most_for program) more is deep give))

-- each variable of a block may be passed by reference: the table has its signature, and it lives
passable_of :
    {program : Y.Program} (m : Main program) (input : List ℕ) (acts : ℕ) (valued : Bool) (more blocks : ℕ)
    (a : Running) → IsRunning m input acts valued more a blocks → (x : Spot) →
    is_known (scope_of program m.called a.head a.body) x ≡ true →
    IsPassable (block_of_run program input acts valued more a) x
passable_of {program} m input acts valued more blocks a h x known =
    let k = block_of_run program input acts valued more a in
    let e = environment_for program a.head in
    let t = h.named x known in
    let n = t.number in
    let d = number_declared n.initial in
    let e' : Environment = environment_for program (record a.head { number = x.block }) in
    let tabled = tabled_at e' k.first.places.signatures (variables_of_block program x.block) x.index d
    (h.tabled (record a.head { number = x.block })) n.declared in
    let given = serial_given k x h.begun n in
    let small = h.serials in
    let at = n.at in
    let low = n.low in
    let inside = n.inside in
    record {
      serial = n.serial;
      signature = table_number e d;
      named = telling_named k x t tabled.shape tabled.small (omega (arith, given, small));
      stored = record {
        old = given;
        living = n.living;
        lives = n.lives;
        shape = n.shape;
        numbered = tabled.shape;
        small = omega (arith, given, small);
        number = tabled.small;
        low = omega (arith, at, low);
        inside = omega (arith, at, inside);
      };
    }

-- whatever waits in the words of its frame
pub knows_given :
    MarkedOnce → {program : Y.Program} (m : Main program) (input : List ℕ) (acts : ℕ) (valued : Bool)
    (more blocks : ℕ) (a : Running) → acts + 1 < 2 ^ 64 →
    (e : IsEntered m input acts valued (suc more) a blocks) → HasLandings m a → EachBody m input acts more →
    EachGiven m input acts valued (suc more) a e.running.free.layer e.running.free.below
knows_given once m input acts valued more zero a few e lands each gives =
    let some = e.running.depth.some in absurd (omega (arith, some))
knows_given once {program} m input acts valued more (suc b) a few e lands each gives =
    let h = e.running in
    let φ = h.free.layer in
    let φs = h.free.below in
    let k = block_of_run program input acts valued (suc more) a in
    let words' = e.words in
    let waiting = h.waiting in
    let named : (labels : List Label) → Includes (labels_in a.body ++ []) labels →
    is_jumped_to program m.called a.head.level a.head.number ≡ true → Includes (labels_in a.body) labels =
    λ labels includes jumped label among. includes label (own_included a.body label among) in
    let site : (words : ℕ) → (waits : ℕ → Option ℕ) → List Way → Site' = λ words waits ways. record {
      words = words;
      ways = ways;
      layer = with_waits waits φ;
      others = φs;
      call = 0;
    } in
    record {
      passable = λ x is. passable_of m input acts valued (suc more) (suc b) a h x is;
      functions = λ words waits labels line level n need ways some stored includes free room is give.
          let f = inner_is m a.head (length ways) true level n is in
          let many = f.many in
          given_value_by once m input acts valued more b (told_run a waits φ φs) few (told_running h waits)
          (told_landings waits φ φs h.free.newest lands) each labels (named labels includes) line level n need
          f.inner (site words waits ways)
          (record {
            newest = refl;
            few = omega (arith, words', waiting);
            free = free;
            room = room;
            many = sym many;
            some = omega (arith, some, many);
          }) (stored_told waits φ φs k.first ways stored) give;
      procedures = λ words waits labels level n line index need ways some stored includes free room is less fits l give.
          let f = inner_is m a.head (length ways) false level n is in
          let many = f.many in
          given_call_by once m input acts valued more b (told_run a waits φ φs) few (told_running h waits)
          (told_landings waits φ φs h.free.newest lands) each labels (named labels includes) level n line index
          need f.inner (site words waits ways)
          (record {
            newest = refl;
            few = omega (arith, words', waiting);
            free = free;
            room = room;
            many = sym many;
            some = omega (arith, some, many);
          }) (stored_told waits φ φs k.first ways stored) less fits l give;
    }
