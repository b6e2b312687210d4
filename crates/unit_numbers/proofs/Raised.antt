-- The block of a unit that is raised in a block: it stands in the code, and what is known of the block that established
-- the unit is known of it.
use Rattle.std.proofs.Common.{◌≡◌, ◌⊎◌, inl, inr, ℕ, suc, ◌*◌, ◌^◌, ◌<◌, ◌≤◌, List, [], ◌∷◌, ◌++◌, length}
use Rattle.std.proofs.Common.{Bool, Some, true, false, refl, sym, ap, ◌∙◌, subst, arith}
use Rattle.std.specs.Prelude.{◌==◌, cond, nat_lt}
use Rattle.std.specs.List.{list_any}
use Rattle.std.proofs.lemmas.Bool.{and_parts, ltb-true}
use Rattle.std.proofs.lemmas.Bool.Decides.{nat_tests}
use Rattle.pli_language.specs.declared.condition.Condition.{Condition}
use Rattle.pli_typing.specs.TypedTree as Y
use Rattle.pli_meaning.specs.Control.{Label}
use Rattle.pli_meaning.specs.DeclaredShapes.{declared_variable}
use Rattle.pli_meaning.specs.Executing.{entered, labels_in}
use Rattle.pli_meaning.specs.Raising.{Around}
use Rattle.pli_meaning.specs.StorageState.{Activation, BlockUnit, ancestor, force, height_of}
use Rattle.pli_meaning.specs.StorageState.{most_activations, newest_height, oncode_of}
use Rattle.pli_coding.specs.Environments.{none_taken}
use Rattle.pli_coding.specs.Images.{linked_code}
use Rattle.pli_coding.specs.Statements.{unit_takes}
use Rattle.code_marks.specs.CodeMarks.{MarkedOnce}
use Rattle.activation_relation.specs.Chains.{AreActive, HasParent}
use Rattle.activation_relation.specs.Frames.{lower_end, upper_top}
use Rattle.activation_relation.specs.Landing.{resumed, with_units}
use Rattle.activation_relation.proofs.Displays.{ancestor_low}
use Rattle.program_places.specs.Inner.{standing_for}
use Rattle.program_places.specs.Programs.{code_for, environment_for, links_for}
use Rattle.program_places.proofs.Inner.{unit_list_placed, unit_placed}
use Rattle.program_places.proofs.Labels.{are_marked}
use Rattle.program_places.proofs.Procedures.{raise_routines}
use Rattle.program_runs.specs.Starts.{image_parts}
use Rattle.program_runs.specs.Statements.{Block, IsBegun, Outer, as_outer}
use Rattle.expression_runs.specs.Assignments.{setting_around}
use Rattle.expression_runs.specs.Values.{Setting}
use Rattle.expression_runs.specs.Variables.{Spot, variable_of}
use Rattle.array_runs.specs.Arrays.{IsArray}
use Rattle.array_runs.proofs.Outer.{outer_array}
use Rattle.block_headlines.proofs.Constants.{called_of_program}
use Rattle.number_runs.specs.Arrays.{is_array_if}
use Rattle.number_runs.specs.Narrow.{is_narrow_if}
use Rattle.number_runs.specs.Numbers.{grid_known, is_array_known, is_known, is_narrow_known, is_place, is_plain_if}
use Rattle.number_runs.specs.Numbers.{type_known}
use Rattle.number_runs.proofs.Narrow.{outer_narrow}
use Rattle.number_runs.specs.Statements.{statements_need, statements_set}
use Rattle.number_runs.proofs.Taking.{Sets}
use Rattle.number_runs.proofs.Takes.{statements_taken}
use Rattle.number_headlines.specs.Programs.{places_to}
use Rattle.number_headlines.proofs.Places.{around_is}
use Rattle.number_headlines.proofs.Running.{free_among, table_later}
use Rattle.number_headlines.proofs.Tables.{block_plain}
use Rattle.unit_runs.specs.Establishing.{OnUnit, unit_index, unit_of}
use Rattle.unit_runs.specs.Raised.{AreMade, IsRaiseOf, IsRaised, IsRaisedAt, Raise, Standing, list_index, unit_block}
use Rattle.unit_runs.specs.Raised.{unit_layer}
use Rattle.unit_runs.proofs.FurtherVariables.{further_number}
use Rattle.condition_codes.specs.Codes.{HasCode}
use Rattle.nested_calls.specs.Nested.{parent_at}
use Rattle.nested_calls.proofs.NestedVariables.{Over, over_known, over_nested, over_number, same_ancestor}
use Rattle.called_units.specs.Hosts.{IsHosted}
use Rattle.called_units.proofs.Hosts.{ancestor_dropped, hosts_known}
use Rattle.unit_numbers.specs.Calls.{has_jumps, scope_in}
use Rattle.unit_numbers.proofs.Established.{all_apart}
use Rattle.unit_numbers.proofs.Homes.{Home, IsHome', world_of}
use Rattle.unit_numbers.proofs.Hosts.{HasNames, IsNext, Lower, Newest, Own, Part, force_next, host_scope}
use Rattle.unit_numbers.proofs.Hosts.{in_force_below}
use Rattle.unit_numbers.proofs.Mains.{Main, all_ons, main_scope, most_for}
use Rattle.unit_numbers.proofs.Places.{listed_at, one_place}
use Rattle.unit_numbers.proofs.Scenes.{Carries, IsAt, IsEntered, IsInside, block_of, may_host}
use Rattle.unit_numbers.proofs.Takes.{unit_taken}
use Rattle.unit_numbers.proofs.Units.{Unit', unit_is}

-- ---- where it stands

abbrev pub around_for : Y.Program → (more : ℕ) → Around
around_for program more = record { program = program; enter = entered program more; turns = suc more; line = 0 }

-- in the list of a procedure
abbrev pub unit_at : Y.Program → (head : Y.BlockHead) → (more : ℕ) → OnUnit → (index : ℕ) → Standing
unit_at program head more x index =
    standing_for (environment_for program head) x index (around_for program more) (λ q. q)

-- what its temporaries and its loops take
pub taken_by :
    {program : Y.Program} (m : Main program) (head : Y.BlockHead) (all : Y.Stmts) (x : OnUnit) →
    Unit' program m.called head all x →
    Sets (statements_need x.body) (statements_set x.body) none_taken (unit_takes program x.head x.head.kind x.body)
taken_by {program} m head all x u =
    let s = main_scope m false in
    let plain = block_plain program.variables x.head.number m.plain in
    unit_taken s program x.head x.head.kind (statements_need x.body) (statements_set x.body) x.body plain.plain
    (statements_taken 0 (scope_in program m.called all head true u.fit.writes) false (labels_in x.body ++ [])
    x.body u.fit.statements u.fit.fits)

-- ---- the unit in force, and the block that established it

abbrev pub raise_setting :
    {program : Y.Program} → Main program → Home → Outer → List Outer → (words : ℕ) → List Label → (line : ℕ) → Setting
raise_setting {program} m h o os words labels line =
    setting_around words (block_of m h o os) labels line (most_for program)

abbrev pub part_of :
    {program : Y.Program} → (m : Main program) → (head : Y.BlockHead) → (all : Y.Stmts) → (more : ℕ) → (x : OnUnit) →
    (index : ℕ) → Unit' program m.called head all x → Part
part_of {program} m head all more x index u =
    record {
      caller = head;
      all = all;
      unit = true;
      writes = u.fit.writes;
      valued = false;
      body = x.body;
      index = list_index (unit_at program head more x index);
    }

-- what is raised, and where
pub record Case {program : Y.Program} (m : Main program) (h : Home) (more b : ℕ) (c : Part) (o : Outer)
    (os : List Outer) (words : ℕ) (labels : List Label) (line : ℕ) {head : Y.BlockHead} {all : Y.Stmts}
    {condition : Condition} (n : Newest m (block_of m h o os) head all condition)
    (e : IsRaised (raise_setting m h o os words labels line) (unit_at program head more n.unit n.index) more)
    (r : Raise) : Type 0
  where
    pub home : IsHome' m h
    pub at : IsAt m h (suc more) (suc b) c o os
    pub by : e.by ≡ n.by
    pub few : nat_lt (length o.first.state.activations) most_activations ≡ true
    pub carries : Carries c labels
    pub is : IsRaiseOf (raise_setting m h o os words labels line) (unit_at program head more n.unit n.index) more e r
    pub made : AreMade (raise_setting m h o os words labels line) (unit_at program head more n.unit n.index) r
    pub begun :
        IsBegun (unit_block (raise_setting m h o os words labels line) (unit_at program head more n.unit n.index) r)

-- wherever it is raised in the block, its own block has the names of that which established it
pub record Source {program : Y.Program} (m : Main program) (h : Home) (more b : ℕ) (c : Part) (o : Outer)
    (os : List Outer) (condition : Condition) : Type 0
  where
    pub head : Y.BlockHead
    pub all : Y.Stmts
    pub newest : Newest m (block_of m h o os) head all condition
    pub parent : HasParent (suc head.level) newest.by.height o.first.state.activations
    pub names :
        (words : ℕ) (labels : List Label) (line : ℕ)
        (e : IsRaised (raise_setting m h o os words labels line) (unit_at program head more newest.unit newest.index)
        more) (r : Raise) → Case m h more b c o os words labels line newest e r →
        HasNames m head
        (unit_block (raise_setting m h o os words labels line) (unit_at program head more newest.unit newest.index) r)
    -- and if units of its list jump, that is further out
    pub inside :
        (words : ℕ) (labels : List Label) (line : ℕ)
        (e : IsRaised (raise_setting m h o os words labels line) (unit_at program head more newest.unit newest.index)
        more) (r : Raise) → Case m h more b c o os words labels line newest e r → has_jumps all ≡ true →
        IsInside m h
        (part_of m head all more newest.unit newest.index
        (unit_is program m.called head all newest.unit newest.on.is))
        (as_outer
        (unit_block (raise_setting m h o os words labels line) (unit_at program head more newest.unit newest.index) r)
        []) (as_outer (block_of m h o os) labels ∷ os)

-- ---- the block itself established it

-- what it may name stands in it, or around it
low_place :
    (program : Y.Program) (head : Y.BlockHead) (x : Spot) →
    list_any (is_place x) (places_to (environment_for program head) head.level) ≡ true → x.level ≤ head.level
low_place program head x h = (around_is (environment_for program head) head.level x h).0

low_spot :
    {program : Y.Program} (m : Main program) (head : Y.BlockHead) (x : Spot) →
    is_known (host_scope m head) x ≡ true → x.level ≤ head.level
low_spot {program} m head x is =
    low_place program head x
    (and_parts (list_any (is_place x) (places_to (environment_for program head) head.level))
    (is_plain_if (declared_variable program (variable_of x))) is).0

low_array :
    {program : Y.Program} (m : Main program) (head : Y.BlockHead) (x : Spot) →
    is_array_known (host_scope m head) x ≡ true → x.level ≤ head.level
low_array {program} m head x is =
    low_place program head x
    (and_parts (list_any (is_place x) (places_to (environment_for program head) head.level))
    (is_array_if (declared_variable program (variable_of x))) is).0

low_narrow :
    {program : Y.Program} (m : Main program) (head : Y.BlockHead) (x : Spot) →
    is_narrow_known (host_scope m head) x ≡ true → x.level ≤ head.level
low_narrow {program} m head x is =
    low_place program head x
    (and_parts (list_any (is_place x) (places_to (environment_for program head) head.level))
    (is_narrow_if (declared_variable program (variable_of x))) is).0

-- its block is over that block, which is its static parent
own_over :
    {program : Y.Program} {m : Main program} {h : Home} {more b : ℕ} {c : Part} {o : Outer} {os : List Outer}
    {words : ℕ} {labels : List Label} {line : ℕ} {condition : Condition}
    (n : Own m (block_of m h o os) c.unit c.caller c.all condition)
    {e : IsRaised (raise_setting m h o os words labels line)
    (unit_at program c.caller more n.newest.unit n.newest.index) more} {r : Raise} →
    Case m h more b c o os words labels line n.newest e r →
    Over (block_of m h o os)
    (unit_block (raise_setting m h o os words labels line)
    (unit_at program c.caller more n.newest.unit n.newest.index) r) c.caller.level r.point
own_over {program} {m} {h} {more} {b} {c} {o} {os} {words} {labels} {line} n {e} {r} q =
    let w = world_of m h in
    let y = unit_at program c.caller more n.newest.unit n.newest.index in
    let u = unit_block (raise_setting m h o os words labels line) y r in
    let made = q.made in
    let p = r.point in
    let φ = resumed made.changed (unit_layer w y r) in
    let a = with_units made.own made.activation in
    let level = (unit_is program m.called c.caller c.all n.newest.unit n.newest.on.is).level in
    let few = q.at.nested.few in
    let inside = n.level in
    let most = e.level in
    let active : AreActive w.units (a ∷ p.state.activations) (φ ∷ p.control.layers) =
    subst (λ xs. AreActive w.units xs (φ ∷ p.control.layers)) made.activations
    (subst (λ ls. AreActive w.units u.first.state.activations ls) made.layers q.begun.resumes.stands.active) in
    record {
      activation = a;
      layer = φ;
      below = p.control.layers;
      active = made.activations;
      layers = made.layers;
      frames = λ j. refl;
      many = refl;
      height = active.0.height;
      inside = active.0.level ∙ level;
      parent = made.parent ∙ q.is.height ∙ ap (λ (x : Activation). x.height) q.by ∙ n.parent;
      remains = q.begun.remains;
      code = level;
      layer_level = level;
      few = omega (arith, level, most);
    }

own_names :
    {program : Y.Program} {m : Main program} {h : Home} {more b : ℕ} {c : Part} {o : Outer} {os : List Outer}
    {words : ℕ} {labels : List Label} {line : ℕ} {condition : Condition}
    (n : Own m (block_of m h o os) c.unit c.caller c.all condition)
    {e : IsRaised (raise_setting m h o os words labels line)
    (unit_at program c.caller more n.newest.unit n.newest.index) more} {r : Raise} →
    Case m h more b c o os words labels line n.newest e r →
    HasNames m c.caller
    (unit_block (raise_setting m h o os words labels line)
    (unit_at program c.caller more n.newest.unit n.newest.index) r)
own_names {program} {m} {h} {more} {b} {c} {o} {os} {words} {labels} {line} n {e} {r} q =
    let k = block_of m h o os in
    let u = unit_block (raise_setting m h o os words labels line)
    (unit_at program c.caller more n.newest.unit n.newest.index) r in
    let s = host_scope m c.caller in
    let a = q.at in
    let over = own_over n q in
    let among = q.is.among in
    let inside = a.inside in
    record {
      nested = over_nested {k = k} {inner = u} over a.nested among a.inside;
      oldest = ap height_of (same_ancestor {k = k} {inner = u} 0 over a.nested among a.inside (omega arith)) ∙ a.oldest;
      variables = λ x is.
          over_number {k = k} {inner = u} x over a.nested a.begun among a.inside (low_spot m c.caller x is)
          (sym a.source) (sym a.parts) (a.variables x is);
      arrays = λ x is.
          outer_array k u x (grid_known s x)
          (λ d known. over_known {k = k} {inner = u} x d over a.nested a.begun among a.inside
          (low_array m c.caller x is) (sym a.source) (sym a.parts) known) (a.arrays x is);
      narrows = λ x is.
          outer_narrow k u x (type_known s x)
          (λ d known. over_known {k = k} {inner = u} x d over a.nested a.begun among a.inside
          (low_narrow m c.caller x is) (sym a.source) (sym a.parts) known) (a.narrows x is);
    }

-- further out is that block
own_inside :
    {program : Y.Program} {m : Main program} {h : Home} {more b : ℕ} {c : Part} {o : Outer} {os : List Outer}
    {words : ℕ} {labels : List Label} {line : ℕ} {condition : Condition}
    (n : Own m (block_of m h o os) c.unit c.caller c.all condition)
    {e : IsRaised (raise_setting m h o os words labels line)
    (unit_at program c.caller more n.newest.unit n.newest.index) more} {r : Raise} →
    Case m h more b c o os words labels line n.newest e r → has_jumps c.all ≡ true →
    IsInside m h
    (part_of m c.caller c.all more n.newest.unit n.newest.index
    (unit_is program m.called c.caller c.all n.newest.unit n.newest.on.is))
    (as_outer
    (unit_block (raise_setting m h o os words labels line)
    (unit_at program c.caller more n.newest.unit n.newest.index) r) []) (as_outer (block_of m h o os) labels ∷ os)
own_inside {program} {m} {h} {more} {b} {c} {o} {os} {words} {labels} {line} n {e} {r} q jumps =
    let k = block_of m h o os in
    let u = unit_block (raise_setting m h o os words labels line)
    (unit_at program c.caller more n.newest.unit n.newest.index) r in
    let f = unit_is program m.called c.caller c.all n.newest.unit n.newest.on.is in
    let a = q.at in
    record {
      block = k;
      lands = n.lands jumps;
      carried = record {
        behind = 0;
        labels = labels;
        rest = os;
        there = refl;
        includes = q.carries n.itself jumps;
      };
      found = ap height_of (same_ancestor {k = k} {inner = u} c.caller.level (own_over n q) a.nested q.is.among a.inside
          (omega arith)) ∙ sym n.parent ∙ n.own;
      level = f.level;
      around = f.around;
    }

own_source :
    {program : Y.Program} {m : Main program} {h : Home} {more b : ℕ} {c : Part} {o : Outer} {os : List Outer}
    {condition : Condition} → IsAt m h (suc more) (suc b) c o os →
    Own m (block_of m h o os) c.unit c.caller c.all condition →
    Source m h more b c o os condition
own_source {m = m} {h} {c = c} {o} {os} a n =
    let k = block_of m h o os in
    let level = n.level in
    let inside = a.inside in
    let parent = n.parent in
    let some = a.nested.some c.caller.level a.inside in
    record {
      head = c.caller;
      all = c.all;
      newest = n.newest;
      parent = (
        omega (arith, parent, some),
        ap (λ j. height_of (ancestor o.first.state.activations j c.caller.level)) n.parent
            ∙ ap height_of (a.nested.same c.caller.level c.caller.level (omega arith) a.inside) ∙ sym n.parent,
      );
      names = λ words labels line e r q. own_names n q;
      inside = λ words labels line e r q jumps. own_inside n q jumps;
    }

-- ---- a block below established it

hosted :
    {program : Y.Program} {m : Main program} {h : Home} {more b : ℕ} {c : Part} {o : Outer} {os : List Outer}
    {words : ℕ} {labels : List Label} {line : ℕ} {condition : Condition}
    (n : Lower m (block_of m h o os) condition)
    {e : IsRaised (raise_setting m h o os words labels line)
    (unit_at program n.host.head more n.newest.unit n.newest.index) more} {r : Raise} →
    Case m h more b c o os words labels line n.newest e r →
    IsHosted (raise_setting m h o os words labels line)
    (unit_at program n.host.head more n.newest.unit n.newest.index) more e r n.host.block n.host.point n.host.numbers
    (suc n.host.count)
hosted n q =
    record {
      further = record {
        begun = n.is.begun;
        among = n.is.among;
        activations = n.over.activations;
        layers = n.over.layers;
        remains = n.over.remains;
        own = ap (λ (x : Activation). x.height) q.by ∙ n.own;
        level = n.is.names.nested.own;
        inner = refl;
        program = sym n.is.source;
        parts = sym n.is.parts;
      };
      is = q.is;
      made = q.made;
      begun = q.begun;
    }

lower_names :
    {program : Y.Program} {m : Main program} {h : Home} {more b : ℕ} {c : Part} {o : Outer} {os : List Outer}
    {words : ℕ} {labels : List Label} {line : ℕ} {condition : Condition}
    (n : Lower m (block_of m h o os) condition)
    {e : IsRaised (raise_setting m h o os words labels line)
    (unit_at program n.host.head more n.newest.unit n.newest.index) more} {r : Raise} →
    Case m h more b c o os words labels line n.newest e r →
    HasNames m n.host.head
    (unit_block (raise_setting m h o os words labels line)
    (unit_at program n.host.head more n.newest.unit n.newest.index) r)
lower_names {program} {m} {h} {more} {b} {c} {o} {os} {words} {labels} {line} n {e} {r} q =
    let g = n.host in
    let k = raise_setting m h o os words labels line in
    let x = unit_at program g.head more n.newest.unit n.newest.index in
    let z = hosted n q in
    let s = host_scope m g.head in
    let level = (unit_is program m.called g.head g.all n.newest.unit n.newest.on.is).level in
    let own = n.is.level in
    let count = suc g.count in
    record {
      nested = hosts_known.nested k x more e r g.block g.point g.numbers count z (level ∙ ap suc (sym n.is.level))
          n.is.names.nested;
      oldest = hosts_known.parent k x more e r g.block g.point g.numbers count 0 z (omega (arith, level))
          ∙ n.is.names.oldest;
      variables = λ spot is.
          let low = low_spot m g.head spot is in
          further_number k x more e r spot g.block g.point g.numbers count z.further z.is z.made z.begun
          (omega (arith, low, level)) (n.is.names.variables spot is);
      arrays = λ spot is.
          let low = low_array m g.head spot is in
          hosts_known.array k x more e r g.block g.point g.numbers count spot (grid_known s spot) z
          (omega (arith, low, level)) (n.is.names.arrays spot is);
      narrows = λ spot is.
          let low = low_narrow m g.head spot is in
          hosts_known.scalar k x more e r g.block g.point g.numbers count spot (type_known s spot) z
          (omega (arith, low, level)) (n.is.names.narrows spot is);
    }

-- further out is that block
lower_inside :
    {program : Y.Program} {m : Main program} {h : Home} {more b : ℕ} {c : Part} {o : Outer} {os : List Outer}
    {words : ℕ} {labels : List Label} {line : ℕ} {condition : Condition}
    (n : Lower m (block_of m h o os) condition)
    {e : IsRaised (raise_setting m h o os words labels line)
    (unit_at program n.host.head more n.newest.unit n.newest.index) more} {r : Raise} →
    Case m h more b c o os words labels line n.newest e r → has_jumps n.host.all ≡ true →
    IsInside m h
    (part_of m n.host.head n.host.all more n.newest.unit n.newest.index
    (unit_is program m.called n.host.head n.host.all n.newest.unit n.newest.on.is))
    (as_outer
    (unit_block (raise_setting m h o os words labels line)
    (unit_at program n.host.head more n.newest.unit n.newest.index) r) []) (as_outer (block_of m h o os) labels ∷ os)
lower_inside {program} {m} {h} {more} {b} {c} {o} {os} {words} {labels} {line} n {e} {r} q jumps =
    let g = n.host in
    let k = raise_setting m h o os words labels line in
    let x = unit_at program g.head more n.newest.unit n.newest.index in
    let f = unit_is program m.called g.head g.all n.newest.unit n.newest.on.is in
    let level = f.level in
    let i = n.over.carried jumps in
    record {
      block = g.block;
      lands = n.is.lands jumps;
      carried = record {
        behind = suc i.behind;
        labels = i.labels;
        rest = i.rest;
        there = i.there;
        includes = i.includes;
      };
      found = hosts_known.parent k x more e r g.block g.point g.numbers (suc g.count) g.head.level (hosted n q)
          (omega (arith, level)) ∙ sym n.parent ∙ n.own;
      level = f.level;
      around = f.around;
    }

-- its activation is where it was
lower_parent :
    {program : Y.Program} {m : Main program} {k : Block} {condition : Condition} → IsBegun k →
    (n : Lower m k condition) → HasParent (suc n.host.head.level) n.newest.by.height k.first.state.activations
lower_parent {k = k} b n =
    let g = n.host in
    let level = g.head.level in
    let as' = k.first.state.activations in
    let found = parent_at g.block level in
    let parent = n.parent in
    let own = n.is.level in
    let inside : level ≤ g.block.environment.level = omega (arith, own) in
    let some = n.is.names.nested.some level inside in
    let short = ancestor_low g.block.call.surroundings.units g.point.state.activations g.point.control.layers
    (newest_height g.point.state.activations) level n.is.among.stands.active in
    let same = ap (λ xs. height_of (ancestor xs (newest_height xs) level)) n.is.among.later.activations in
    let l0 = ap (λ (xs : List Activation). length xs) n.over.activations in (
      omega (arith, parent, some),
      ap (λ j. height_of (ancestor as' j level)) n.parent
          ∙ ap height_of (ancestor_dropped k.call.surroundings.units (suc g.count) as' k.first.control.layers found
          level b.resumes.stands.active (omega (arith, short, same, l0)))
          ∙ ap (λ xs. height_of (ancestor xs found level)) n.over.activations
          ∙ ap (λ xs. height_of (ancestor xs found level)) n.is.among.later.activations
          ∙ ap height_of (n.is.names.nested.same level level (omega arith) inside) ∙ sym n.parent,
    )

lower_source :
    {program : Y.Program} {m : Main program} {h : Home} {more b : ℕ} {c : Part} {o : Outer} {os : List Outer}
    {condition : Condition} → IsAt m h (suc more) (suc b) c o os → Lower m (block_of m h o os) condition →
    Source m h more b c o os condition
lower_source a n =
    record {
      head = n.host.head;
      all = n.host.all;
      newest = n.newest;
      parent = lower_parent a.begun n;
      names = λ words labels line e r q. lower_names n q;
      inside = λ words labels line e r q jumps. lower_inside n q jumps;
    }

pub source_of :
    {program : Y.Program} {m : Main program} {h : Home} {more b : ℕ} {c : Part} {o : Outer} {os : List Outer}
    {condition : Condition} → IsAt m h (suc more) (suc b) c o os →
    Own m (block_of m h o os) c.unit c.caller c.all condition ⊎ Lower m (block_of m h o os) condition →
    Source m h more b c o os condition
source_of a (inl n) = own_source a n
source_of a (inr n) = lower_source a n

-- ---- the raise

-- while one more block may be active, or not
pub unit_raised :
    MarkedOnce → {program : Y.Program} (m : Main program) (h : Home) → IsHome' m h → (more b : ℕ) (c : Part)
    (o : Outer) (os : List Outer) → IsAt m h (suc more) (suc b) c o os → (words : ℕ) (labels : List Label)
    (line : ℕ) {condition : Condition} (z : Source m h more b c o os condition) (may : Bool) →
    nat_lt (length o.first.state.activations) most_activations ≡ may →
    (r : IsRaisedAt may (setting_around words (block_of m h o os) labels line (most_for program))
    (unit_at program z.head more z.newest.unit z.newest.index) more)
    × (r.by ≡ z.newest.by)
unit_raised once {program} m h ih more b c o os a words labels line {condition} z may few =
    let n = z.newest in
    let e = environment_for program z.head in
    let links = links_for program in
    let code = linked_code (code_for program) in
    let x = n.unit in
    let index = n.index in
    let around = around_for program more in
    let y = unit_at program z.head more x index in
    let u = unit_is program m.called z.head z.all x n.on.is in
    let set = (taken_by m z.head z.all x u).words in
    let waiting = u.fit.waiting in
    let level = u.level in
    let free = a.free in
    let fits = free.fits in
    let used = free.used in
    let top = ap (λ ls. upper_top image_parts ls) free.newest in
    let lower = ap (λ ls. lower_end image_parts ls) free.newest in
    let stands = unit_placed links code index e x around (λ q. q) n.on.placed in
    let inside = stands.linked.inside in
    let low = n.on.low in
    let most = n.on.level in (
      record {
        begun = a.begun;
        routines = raise_routines once program m.loadable;
        by = n.by;
        force = subst (λ d. force o.first.state.activations d ≡ Some (n.by, BlockUnit (unit_of x)))
            (sym n.condition) n.forced;
        parent = subst (λ l. HasParent l n.by.height o.first.state.activations) (sym level) z.parent;
        room = omega (arith, set, waiting, level, most, fits, used, top, lower);
        shallow = few;
        only = λ at there. one_place (all_ons m) (Y.BlockOf x.head x.body) at (4 * unit_index x index)
            (all_apart m) there (listed_at (x, index) (all_ons m) n.on.listed);
        some = omega arith;
        stands = stands.linked;
        labels = are_marked links code (list_index y) y.environment x.body
            (unit_list_placed links code index e x around (λ q. q) n.on.placed);
        kind = kind u.bare;
        level = omega (arith, level, most);
        line = u.begins;
        saved = omega arith;
        acts = ih.few;
        enter = subst (λ p. o.around.enter ≡ entered p (suc more)) (sym a.around) a.enter;
        around = ap (λ p. around_for p more) (sym a.around);
        enough = a.enough;
        most = omega (arith, inside, low);
      },
      refl,
    )
  where
    kind :
        {P : Type 0} → (z.newest.unit.head.kind ≡ Y.SimpleUnit) ⊎ ((z.newest.unit.head.kind ≡ Y.UnitBlock) × P) →
        (z.newest.unit.head.kind ≡ Y.SimpleUnit) ⊎ (z.newest.unit.head.kind ≡ Y.UnitBlock)
    kind (inl q) = inl q
    kind (inr q) = inr q.0

-- ---- its block

-- ONCODE is the code for which it runs
code_less : (n further : ℕ) → 0 < n → n < 2 ^ 16 → cond (n == 0) further n < 2 ^ 16
code_less n further some less =
    let e : (n == 0) ≡ false = grind (arith, nat_tests) in
    subst (λ q. cond q further n < 2 ^ 16) (sym e) less

unit_code :
    {program : Y.Program} (m : Main program) {h : Home} {more b : ℕ} {c : Part} {o : Outer} {os : List Outer}
    {words : ℕ} {labels : List Label} {line : ℕ} {condition : Condition} (z : Source m h more b c o os condition)
    {e : IsRaised (raise_setting m h o os words labels line)
    (unit_at program z.head more z.newest.unit z.newest.index) more} {r : Raise} →
    Case m h more b c o os words labels line z.newest e r →
    HasCode
    (unit_block (raise_setting m h o os words labels line)
    (unit_at program z.head more z.newest.unit z.newest.index) r)
unit_code {program} m {h} {more} {b} {c} {o} {os} {words} {labels} {line} z {e} {r} q =
    let w = world_of m h in
    let y = unit_at program z.head more z.newest.unit z.newest.index in
    let u = unit_block (raise_setting m h o os words labels line) y r in
    let made = q.made in
    let p = r.point in
    let φ = resumed made.changed (unit_layer w y r) in
    let a = with_units made.own made.activation in
    let active : AreActive w.units (a ∷ p.state.activations) (φ ∷ p.control.layers) =
    subst (λ xs. AreActive w.units xs (φ ∷ p.control.layers)) made.activations
    (subst (λ ls. AreActive w.units u.first.state.activations ls) made.layers q.begun.resumes.stands.active) in
    let runs = active.0.runs in
    let same = runs.0 in
    let near = q.is.near in
    subst (λ as'. oncode_of as' < 2 ^ 16) (sym made.activations)
    (code_less a.oncode (oncode_of p.state.activations) runs.1 (omega (arith, same, near)))

-- it is next over the block in which it is raised
unit_next :
    {program : Y.Program} (m : Main program) {h : Home} {more b : ℕ} {c : Part} {o : Outer} {os : List Outer}
    {words : ℕ} {labels : List Label} {line : ℕ} {condition : Condition} (z : Source m h more b c o os condition)
    {e : IsRaised (raise_setting m h o os words labels line)
    (unit_at program z.head more z.newest.unit z.newest.index) more} {r : Raise} →
    Case m h more b c o os words labels line z.newest e r →
    IsNext (block_of m h o os)
    (unit_block (raise_setting m h o os words labels line)
    (unit_at program z.head more z.newest.unit z.newest.index) r) r.numbers r.point labels
unit_next m z {r = r} q =
    record {
      among = q.is.among;
      activation = with_units q.made.own q.made.activation;
      layer = _;
      active = q.made.activations;
      layers = q.made.layers;
      forced = λ d. refl;
      remains = q.begun.remains;
      outers = refl;
    }

pub unit_entered :
    {program : Y.Program} (m : Main program) {h : Home} {more b : ℕ} {c : Part} {o : Outer} {os : List Outer}
    {words : ℕ} {labels : List Label} {line : ℕ} {condition : Condition} (z : Source m h more b c o os condition)
    {e : IsRaised (raise_setting m h o os words labels line)
    (unit_at program z.head more z.newest.unit z.newest.index) more} {r : Raise} →
    Case m h more b c o os words labels line z.newest e r →
    IsEntered m h more b
    (part_of m z.head z.all more z.newest.unit z.newest.index
    (unit_is program m.called z.head z.all z.newest.unit z.newest.on.is))
    (as_outer
    (unit_block (raise_setting m h o os words labels line)
    (unit_at program z.head more z.newest.unit z.newest.index) r) [])
    (as_outer (block_of m h o os) labels ∷ os)
unit_entered {program} m {h} {more} {b} {c} {o} {os} {words} {labels} {line} z {e} {r} q =
    let w = world_of m h in
    let k = block_of m h o os in
    let n = z.newest in
    let x = n.unit in
    let y = unit_at program z.head more x n.index in
    let u = unit_block (raise_setting m h o os words labels line) y r in
    let f = unit_is program m.called z.head z.all x n.on.is in
    let a = q.at in
    let made = q.made in
    let names = z.names words labels line e r q in
    let among = q.is.among in
    let later = q.is.later in
    let same = made.acts in
    let enough = a.enough in
    let level = f.level in
    let most = n.on.level in
    let waiting = f.fit.waiting in
    let set = (taken_by m z.head z.all x f).words in
    let registers = (taken_by m z.head z.all x f).registers in
    let fits = f.fit.fits in
    let free = free_among (suc b) a.begun among a.free in
    let even = free.even in
    let under = free.under in
    let used = free.used in
    let room = free.fits in
    let top = ap (λ ls. upper_top image_parts ls) free.newest in
    let low = ap (λ ls. lower_end image_parts ls) free.newest in
    let shallow = ltb-true (length o.first.state.activations) most_activations q.few in
    let deep = a.depth.all in
    let here = ap (λ (as' : List Activation). length as') among.later.activations in
    record {
      at = record {
        begun = q.begun;
        source = refl;
        parts = refl;
        around = refl;
        enter = refl;
        turns = omega (arith, later, same, enough);
        enough = omega (arith, later, same, enough);
        held = omega arith;
        nested = names.nested;
        inside = omega (arith, level);
        variables = names.variables;
        arrays = names.arrays;
        narrows = names.narrows;
        forced = λ d. in_force_below (force_next (unit_next m z q) (may_host a) q.carries d (a.forced d));
        settled = λ jumped. absurd (cc jumped);
        oldest = names.oldest;
        idle = made.idle;
        code = unit_code m z q;
        told = called_of_program program k u r.numbers a.told among refl refl q.begun;
        free = record {
          layer = unit_layer w y r;
          below = r.point.control.layers;
          newest = refl;
          even = omega (arith, even, top, level, most);
          under = omega (arith, under, low);
          low = free.low;
          used = free.used;
          fits = omega (arith, set, waiting, level, most, room, used, top, low);
        };
        tabled = table_later program q.begun.remains (table_later program among.later.remains a.tabled);
        depth = record { some = omega (arith, shallow, deep); all = omega (arith, deep, here) };
      };
      part = record {
        statements = λ unit. f.fit.statements;
        needs = omega (arith, registers, fits);
        waiting = waiting;
        placed = unit_list_placed (links_for program) (linked_code (code_for program)) n.index
            (environment_for program z.head) x (around_for program more) (λ s. s) n.on.placed;
      };
      words = omega (arith, set);
      clear = λ j. refl;
      inner = λ unit jumps. z.inside words labels line e r q jumps;
      visited = λ no. absurd (cc no);
    }
