-- A procedure or a function that is called in a block: its variables are made, and what is known there is known of it.
use Rattle.std.proofs.Common.{◌≡◌, ℕ, suc, ◌+◌, ◌^◌, ◌<◌, List, [], ◌∷◌, length, Bool, None, Some, true, false, refl}
use Rattle.std.proofs.Common.{inl, sym, ap, ◌∙◌, subst}
use Rattle.std.proofs.Common.{arith}
use Rattle.std.specs.Prelude.{cond, nat_lt, ◌==◌}
use Rattle.std.proofs.lemmas.Bool.{ltb-true}
use Rattle.pli_language.specs.declared.condition.Condition.{Condition}
use Rattle.pli_typing.specs.TypedTree as Y
use Rattle.pli_meaning.specs.Control.{Label}
use Rattle.pli_meaning.specs.DeclaredShapes.{variables_of_block}
use Rattle.pli_meaning.specs.StorageState.{Activation, Binding, ancestor, force, height_of, most_activations}
use Rattle.pli_meaning.specs.StorageState.{newest_height, oncode_of}
use Rattle.pli_meaning.specs.BasicValues.{VariableName}
use Rattle.pli_meaning.specs.Making.{with_binding}
use Rattle.pli_meaning.specs.World.{World}
use Rattle.pli_coding.specs.Environments.{none_taken}
use Rattle.pli_coding.specs.Frames.{fixed_size, parameters_in}
use Rattle.pli_coding.specs.Images.{linked_code}
use Rattle.code_marks.specs.CodeMarks.{MarkedOnce}
use Rattle.storage_relation.proofs.Holders.{eqb-other, eqb-refl}
use Rattle.activation_relation.specs.Frames.{lower_end, upper_top}
use Rattle.activation_relation.specs.Layers.{Layer, Point}
use Rattle.program_places.specs.Programs.{body_for, code_for, environment_for, links_for}
use Rattle.program_places.proofs.Labels.{label_of}
use Rattle.program_places.proofs.Blocks.{own_block}
use Rattle.program_places.proofs.Callees.{end_is}
use Rattle.program_places.proofs.Found.{known}
use Rattle.program_places.proofs.Functions.{function_end_is}
use Rattle.program_places.proofs.Procedures.{body_placed}
use Rattle.program_runs.specs.Calls.{begun_at, left_over}
use Rattle.program_runs.specs.Procedures.{layer_for}
use Rattle.program_runs.specs.Starts.{image_parts}
use Rattle.program_runs.specs.Statements.{Block, IsBegun, Outer, as_outer}
use Rattle.program_runs.specs.Variables.{Declared, generation_for}
use Rattle.variable_runs.specs.Lists.{all_made, behind_made, layer_after, layer_behind}
use Rattle.block_headlines.proofs.Constants.{called_of_program}
use Rattle.nested_calls.specs.Nested.{IsNested, parent_at}
use Rattle.number_runs.specs.Knowledge.{IsHome}
use Rattle.number_runs.specs.Numbers.{grid_known, type_known}
use Rattle.number_runs.specs.Variables.{words_in}
use Rattle.number_runs.proofs.Words.{room_behind}
use Rattle.number_headlines.proofs.FullWords.{words_at, words_count, words_lower}
use Rattle.number_headlines.proofs.Loops.{after_waits, after_words}
use Rattle.number_headlines.proofs.Running.{free_among, table_later}
use Rattle.number_headlines.proofs.Tables.{block_plain}
use Rattle.condition_codes.specs.Codes.{HasCode}
use Rattle.jump_runs.proofs.Numbers.{alone, leaving, number_leaving}
use Rattle.unit_numbers.proofs.Arrays.{array_leaving, narrow_leaving}
use Rattle.unit_numbers.proofs.Callees.{Called, callee_of}
use Rattle.unit_numbers.proofs.Homes.{Home, world_of}
use Rattle.unit_numbers.proofs.Hosts.{InForceBelow, IsNext, Part, force_next, in_force_below}
use Rattle.unit_numbers.proofs.Inner.{Inner, inner_held, inner_ons, inner_set, precision_of, returns_so}
use Rattle.unit_numbers.proofs.Mains.{Main}
use Rattle.number_headlines.proofs.CalledLandings.{made_stacks}
use Rattle.unit_numbers.proofs.Outer.{block_saves, frame_top}
use Rattle.unit_numbers.proofs.Named.{DontPass, Moment, are_made, bare_block, begun_room, called_scope, each_array}
use Rattle.unit_numbers.proofs.Named.{each_narrow, each_number, entered_at, made_idle, nested_by}
use Rattle.unit_numbers.proofs.Scenes.{Carries, IsEntered, block_of, may_host}

-- ---- its activation: it has no units of its own

abbrev visited : (level height parent : ℕ) → List Binding → Activation
visited level height parent bindings =
    record { height = height; level = level; parent = parent; oncode = 0; bindings = bindings; units = [] }

record Above (level height parent : ℕ) (below as' : List Activation) : Type 0 where
  bindings : List Binding
  is : as' ≡ visited level height parent bindings ∷ below

made_above :
    (level height parent : ℕ) (below : List Activation) (φ : Layer) (xs : List Declared) (p : Point) →
    Above level height parent below p.state.activations →
    Above level height parent below (all_made image_parts φ xs p).state.activations
made_above level height parent below φ [] p h = h
made_above level height parent below φ (x ∷ xs) p h =
    let b : Binding = record {
      variable = x.index;
      name = VariableName (p.state.serials + 1);
      shape = (generation_for x).shape;
    } in
    made_above level height parent below (layer_behind image_parts (p.state.serials + 1) φ x) xs
    (behind_made image_parts φ x p)
    (record { bindings = b ∷ h.bindings; is = ap (λ as'. with_binding b as') h.is })

called_above :
    (v : Bool) {program : Y.Program} (m : Main program) {h : Home} {more blocks : ℕ} {part : Part} {out : Outer}
    {os : List Outer} {p : Point} {numbers : ℕ → ℕ} (o : Moment m h (suc more) blocks part out os p numbers)
    {level number : ℕ} (i : Inner m part.caller v level number) (call : ℕ) →
    Above i.head.level (length p.state.activations + 1) (parent_at (block_of m h out os) level) p.state.activations
    (bare_block m h v more (entered_at i (block_of m h out os) call p numbers)).first.state.activations
called_above false {program} m {h} {out = out} {os} {p} o {level} i call =
    made_above i.head.level (length p.state.activations + 1) (parent_at (block_of m h out os) level)
    p.state.activations _ (words_in (environment_for program i.head)) _ (record { bindings = []; is = refl })
called_above true {program} m {h} {out = out} {os} {p} o {level} i call =
    made_above i.head.level (length p.state.activations + 1) (parent_at (block_of m h out os) level)
    p.state.activations _ (words_in (environment_for program i.head)) _ (record { bindings = []; is = refl })

-- ONCODE is there what it is where it is called
code_there :
    {program : Y.Program} (m : Main program) {h : Home} {more blocks : ℕ} {part : Part} {out : Outer}
    {os : List Outer} {p : Point} {numbers : ℕ → ℕ} (o : Moment m h (suc more) blocks part out os p numbers)
    {v : Bool} {level number : ℕ} (i : Inner m part.caller v level number) (call : ℕ) →
    HasCode (bare_block m h v more (entered_at i (block_of m h out os) call p numbers))
code_there m o {v = v} i call =
    subst (λ as'. oncode_of as' < 2 ^ 16) (sym (called_above v m o i call).is)
    (subst (λ as'. oncode_of as' < 2 ^ 16) (sym o.among.later.activations) o.at.code)

ancestor_above :
    (a : Activation) (as' : List Activation) (level : ℕ) → (a.level == level) ≡ false →
    ancestor (a ∷ as') a.height level ≡ ancestor as' a.parent level
ancestor_above a as' level other =
    ap (λ q. cond q (cond (a.level == level) (Some a) (ancestor as' a.parent level)) (ancestor as' a.height level))
    (eqb-refl a.height)
    ∙ ap (λ q. cond q (Some a) (ancestor as' a.parent level)) other

-- and its ancestor of level 0 is that of the block that calls it
oldest_there :
    {program : Y.Program} (m : Main program) {h : Home} {more blocks : ℕ} {part : Part} {out : Outer}
    {os : List Outer} {p : Point} {numbers : ℕ → ℕ} (o : Moment m h (suc more) blocks part out os p numbers)
    {v : Bool} {level number : ℕ} (i : Inner m part.caller v level number) (call : ℕ) →
    parent_at (bare_block m h v more (entered_at i (block_of m h out os) call p numbers)) 0 ≡ 1
oldest_there m {h} {out = out} {os} {p} o {v} {level} i call =
    let k = block_of m h out os in
    let above = called_above v m o i call in
    let a = visited i.head.level (length p.state.activations + 1) (parent_at k level) above.bindings in
    let inside = i.inside in
    let around = i.around_it in
    let within = o.at.inside in
    ap (λ as'. height_of (ancestor as' (newest_height as') 0)) above.is
    ∙ ap height_of (ancestor_above a p.state.activations 0
    (eqb-other i.head.level 0 (λ e. omega (arith, inside, e))))
    ∙ ap (λ xs. height_of (ancestor xs (parent_at k level) 0)) o.among.later.activations
    ∙ ap height_of (o.at.nested.same level 0 (omega arith) (omega (arith, around, within)))
    ∙ o.at.oldest

-- ---- all of it

nested_leaving : (k : Block) (os : List Outer) → IsNested k → IsNested (leaving k os)
nested_leaving k os n = record { own = n.own; few = n.few; some = n.some; same = n.same }

-- what runs
abbrev pub called_part :
    {program : Y.Program} → {m : Main program} → {caller : Y.BlockHead} → {valued : Bool} → {level number : ℕ} →
    Inner m caller valued level number → Part
called_part {program} {valued = valued} i =
    record {
      caller = i.head;
      all = i.body;
      unit = false;
      writes = false;
      valued = valued;
      body = i.body;
      index = body_for program i.head i.body;
    }

-- further out are the block that calls it, with the labels that a jump may name there, and those around that
abbrev pub whole_block :
    {program : Y.Program} → Main program → Home → (valued : Bool) → (more : ℕ) → Called → List Outer → Block
whole_block m h valued more a os = leaving (bare_block m h valued more a) os

-- where its code is, and how it is left
called_home :
    MarkedOnce → (v : Bool) {program : Y.Program} (m : Main program) (h : Home) (more : ℕ) {caller : Y.BlockHead}
    {level number : ℕ} (i : Inner m caller v level number) (k : Block) (call : ℕ) (p : Point) (numbers : ℕ → ℕ)
    (os : List Outer) → IsBegun (whole_block m h v more (entered_at i k call p numbers) os) →
    IsHome (called_scope m i) v (whole_block m h v more (entered_at i k call p numbers) os) left_over
called_home once false {program} m h more i k call p numbers os b =
    let end = end_is once program i.head i.body m.loadable (returns_so i) in
    record {
      level = refl;
      own = refl;
      block = own_block program i.head i.body i.result i.is;
      returns = λ e. inl (record {
        owner = refl;
        end = end.place;
        near = end.near;
        enough = omega arith;
        function = refl;
        begun = b;
        kind = refl;
        registers = omega arith;
      });
      values = λ may e. absurd (cc e);
    }
called_home once true {program} m h more i k call p numbers os b =
    let inside = i.inside in
    let end = function_end_is once program i.head i.body (precision_of i) m.loadable (returns_so i)
    (omega (arith, inside)) in
    record {
      level = refl;
      own = refl;
      block = own_block program i.head i.body i.result i.is;
      returns = λ e. absurd (cc e);
      values = λ may e. record {
        owner = refl;
        end = end.place;
        near = end.near;
        enough = omega arith;
        function = refl;
        kind = refl;
        saved = omega arith;
      };
    }

pub called_entered :
    MarkedOnce → {program : Y.Program} (m : Main program) {h : Home} {more b : ℕ} {part : Part} {out : Outer}
    {os : List Outer} {p : Point} {numbers : ℕ → ℕ} (o : Moment m h (suc more) (suc b) part out os p numbers)
    {v : Bool} {level number : ℕ} (i : Inner m part.caller v level number) (call : ℕ) (labels : List Label) →
    Carries part labels → DontPass (block_of m h out os) i →
    nat_lt (length out.first.state.activations) most_activations ≡ true →
    IsBegun (whole_block m h v more (entered_at i (block_of m h out os) call p numbers)
    (as_outer (block_of m h out os) labels ∷ os)) →
    IsEntered m h more b (called_part i)
    (as_outer (bare_block m h v more (entered_at i (block_of m h out os) call p numbers)) [])
    (as_outer (block_of m h out os) labels ∷ os)
called_entered once {program} m {h} {more} {b} {part} {out} {os} {p} {numbers} o {v} {level} i call labels
    carries pass few b' =
    let w = world_of m h in
    let k = block_of m h out os in
    let r = entered_at i k call p numbers in
    let c = callee_of program v more r in
    let inner = bare_block m h v more r in
    let os' = as_outer k labels ∷ os in
    let bare = alone inner os' b' in
    let φ = layer_for w p numbers c.procedure c.calling in
    let start = begun_at w c p numbers in
    let ds = variables_of_block program i.head.number in
    let first = fixed_size i.head.level 0 in
    let xs = words_in (environment_for program i.head) in
    let serial = start.state.serials + 1 in
    let made = are_made m o i call pass in
    let later = o.among.later.acts in
    let enough = o.at.enough in
    let world = ap (λ (u : World). u.acts) made.world in
    let there = ap (λ (as' : List Activation). length as') made.activations in
    let here = ap (λ (as' : List Activation). length as') o.among.later.activations in
    let shallow = ltb-true (length out.first.state.activations) most_activations few in
    let deep = o.at.depth.all in
    let begun' = begun_room m o i c refl pass in
    let e = environment_for program i.head in
    let plain = (block_plain program.variables i.head.number m.plain).plain in
    let room = room_behind w start φ p.control.layers e first 0 0 ds plain begun' in
    let f = free_among (suc b) o.at.begun o.among o.at.free in
    let words = inner_set m i in
    let waiting = i.fit.waiting in
    let high = (known program i.head i.body i.result m.loadable.well_formed i.is).level in
    let used = f.used in
    let fits = f.fits in
    let under = f.under in
    let top = ap (λ ls. upper_top image_parts ls) f.newest in
    let low = ap (λ ls. lower_end image_parts ls) f.newest in
    let place = room.here in
    let lower = words_lower image_parts (start.state.serials + 1) φ xs in
    let at = words_at image_parts (start.state.serials + 1) φ xs in
    let limit = begun'.limit in
    let counts = words_count image_parts start φ e first 0 ds plain
    (record { activation = _; below = _; active = refl; some = omega arith }) in
    let inside = i.inside in
    let above = called_above v m o i call in
    let stacks = made_stacks φ xs start in
    let next : IsNext k (whole_block m h v more r os') numbers p labels = record {
      among = o.among;
      activation = _;
      layer = _;
      active = above.is;
      layers = room.newest;
      forced = λ d. ap (λ as'. force as' d) above.is;
      remains = b'.remains;
      outers = refl;
    } in
    let below : (d : Condition) → InForceBelow m (whole_block m h v more r os') d = λ d.
    force_next next (may_host o.at) carries d (o.at.forced d) in
    record {
      at = record {
        begun = b';
        source = refl;
        parts = refl;
        around = refl;
        enter = refl;
        turns = omega (arith, later, enough, world);
        enough = omega (arith, later, enough, world);
        held = omega arith;
        nested = nested_leaving inner os' (nested_by v m o i call pass bare);
        inside = omega arith;
        variables = λ x is. number_leaving inner os' x (each_number m o i call pass bare x is);
        arrays = λ x is.
            array_leaving inner os' x (grid_known (called_scope m i) x) (each_array m o i call pass bare x is);
        narrows = λ x is.
            narrow_leaving inner os' x (type_known (called_scope m i) x) (each_narrow m o i call pass bare x is);
        forced = λ d. in_force_below (below d);
        settled = λ jumped outer. absurd (omega (arith, inside, outer));
        oldest = oldest_there m o i call;
        idle = made_idle φ xs start;
        code = code_there m o i call;
        told = called_of_program program k (whole_block m h v more r os') numbers o.at.told o.among refl refl b';
        free = record {
          layer = layer_after image_parts serial φ xs;
          below = _;
          newest = room.newest;
          even = room.even;
          under = omega (arith, lower, low, under);
          low = room.low;
          used = omega (arith, counts, limit);
          fits = omega (arith, words, waiting, high, fits, top, low, place, at, lower, counts);
        };
        tabled = table_later program b'.remains (table_later program o.among.later.remains o.at.tabled);
        depth = record {
          some = omega (arith, shallow, deep);
          all = omega (arith, deep, there, here);
        };
      };
      part = record {
        statements = λ unit. absurd (cc unit);
        needs = inner_held m i;
        waiting = i.fit.waiting;
        placed = body_placed once program i.head i.body i.result m.loadable i.is;
      };
      words = after_words serial φ xs ∙ inner_set m i;
      clear = λ n. ap (λ waits. waits n) (after_waits serial φ xs);
      inner = λ unit. absurd (cc unit);
      visited = λ own. record {
        steps = i.fit.steps;
        ons = inner_ons once m i;
        bare = record { activation = _; others = p.state.activations; none = refl; is = above.is };
        level = refl;
        inner = omega (arith, inside);
        below = below;
        home = called_home once v m h more i k call p numbers os' b';
        own = refl;
        lands = λ jumps. record {
          registers = λ label among. block_saves program i.head i.body label among;
          entries = stacks.entries;
          edits = stacks.edits;
          top = frame_top program i.head w _ _ p.control.layers 0 (ap parameters_in i.is) plain room;
          number = refl;
          placed = λ label among.
              label_of (links_for program) (linked_code (code_for program)) (body_for program i.head i.body) e
              none_taken
              i.body (body_placed once program i.head i.body i.result m.loadable i.is) label among;
        };
      };
    }
