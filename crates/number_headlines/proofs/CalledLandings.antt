-- The blocks further out of one that is called from a block of the class, without arguments: the calling block, with
-- the labels that a jump may name there, and those around that.
use Rattle.std.proofs.Common.{◌≡◌, ◌⊎◌, inl, inr, ℕ, zero, suc, ◌+◌, ◌<◌, ◌≤◌, List, [], ◌∷◌, length, Bool, true, false}
use Rattle.std.proofs.Common.{refl, sym, ap, ◌∙◌, subst, arith}
use Rattle.std.specs.Prelude.{◌&&◌, ◌==◌, drop, min, nat_lt}
use Rattle.std.proofs.lemmas.Bool.{and_from, and_parts, eqb-false, eqb-true, lt-ltb, ltb-true}
use Rattle.pli_typing.specs.TypedTree as Y
use Rattle.pli_meaning.specs.Control.{Label, is_among}
use Rattle.pli_meaning.specs.DeclaredShapes.{variables_of_block}
use Rattle.pli_meaning.specs.Executing.{labels_in}
use Rattle.pli_meaning.specs.StorageState.{ancestor_at, height_of, newest_height, ancestor}
use Rattle.pli_coding.specs.Environments.{Environment, block_around, none_taken}
use Rattle.pli_coding.specs.Frames.{MemoryParts, fixed_size, frame_bytes, frame_end, last_place, parameters_in}
use Rattle.pli_coding.specs.Frames.{variable_place}
use Rattle.pli_coding.specs.Images.{linked_code}
use Rattle.pli_coding.specs.Registers.{held_registers}
use Rattle.pli_coding.specs.Statements.{stmts_held}
use Rattle.activation_relation.specs.Frames.{frame_under, upper_top}
use Rattle.activation_relation.specs.Layers.{Layer, Point}
use Rattle.program_places.specs.Programs.{code_for, environment_for, links_for}
use Rattle.program_places.proofs.Labels.{label_of}
use Rattle.program_runs.specs.Calls.{begun_at}
use Rattle.program_runs.specs.Procedures.{layer_for}
use Rattle.program_runs.specs.Starts.{image_parts}
use Rattle.program_runs.specs.Statements.{Block, IsBegun, Outer, as_outer}
use Rattle.program_runs.specs.Variables.{Declared}
use Rattle.program_runs.proofs.NewestBlocks.{newest_at, own_ancestor}
use Rattle.variable_runs.specs.Known.{IsKnown}
use Rattle.variable_runs.specs.Lists.{all_made, behind_made, layer_behind}
use Rattle.expression_runs.specs.Variables.{Spot}
use Rattle.area_runs.specs.Allocations.{HasArea}
use Rattle.parameter_runs.specs.Around.{IsParameterAround}
use Rattle.jump_runs.proofs.Numbers.{leaving, number_leaving}
use Rattle.list_calls.specs.Passed.{IsTelling}
use Rattle.nested_calls.proofs.NestedVariables.{function_over, procedure_over, same_ancestor}
use Rattle.number_runs.specs.Knowledge.{Includes}
use Rattle.number_runs.specs.Variables.{are_plain, bytes_of, is_declared, variable_bytes, words_in}
use Rattle.number_runs.proofs.Declared.{makeable}
use Rattle.number_runs.proofs.Words.{room_behind}
use Rattle.number_headlines.specs.Jumps.{is_jumped_to, is_label_around, labels_if, labels_of}
use Rattle.number_headlines.specs.Programs.{stand_alike}
use Rattle.number_headlines.proofs.CalledBlocks.{DontPass, Moment, are_made, begun_room, callee_in, entered_at}
use Rattle.number_headlines.proofs.CalledBlocks.{is_inside}
use Rattle.number_headlines.proofs.Inner.{Inner}
use Rattle.number_headlines.proofs.Landings.{HasLandings, IsLanding, IsTarget}
use Rattle.number_headlines.proofs.Mains.{Main, surroundings_for}
use Rattle.number_headlines.proofs.Places.{alike_at}
use Rattle.number_headlines.proofs.Running.{IsBegunForm, IsCalledForm, IsEntered, Running, block_of_run}
use Rattle.number_headlines.proofs.Running.{environment_of_run}

-- ---- what is known of a block is known of it with others further out

abbrev pub with_outers : List Outer → Running → Running
with_outers os a = record a { form = record a.form { outers = os } }

known_leaving :
    (k : Block) (os : List Outer) (x : Spot) (d : Y.DeclaredVariable) → IsKnown (leaving k []) x d →
    IsKnown (leaving k os) x d
known_leaving k os x d n =
    record {
      declared = n.declared;
      serial = n.serial;
      binding = n.binding;
      living = n.living;
      lives = n.lives;
      shape = n.shape;
      base = n.base;
      frame = n.frame;
      at = n.at;
      low = n.low;
      inside = n.inside;
    }

telling_leaving : (k : Block) (os : List Outer) (x : Spot) → IsTelling (leaving k []) x → IsTelling (leaving k os) x
telling_leaving k os x t =
    let n = t.number in
    record {
      number = record {
        initial = n.initial;
        declared = n.declared;
        serial = n.serial;
        binding = n.binding;
        living = n.living;
        lives = n.lives;
        shape = n.shape;
        base = n.base;
        frame = n.frame;
        at = n.at;
        low = n.low;
        inside = n.inside;
      };
      told = t.told;
    }

parameter_leaving :
    (k : Block) (os : List Outer) (x : Spot) → IsBegun (leaving k os) → IsParameterAround (leaving k []) x →
    IsParameterAround (leaving k os) x
parameter_leaving k os x b n =
    record {
      begun = b;
      declared = n.declared;
      entry = n.entry;
      numbered_so = n.numbered_so;
      near = n.near;
      binding = n.binding;
      living = n.living;
      lives = n.lives;
      shape = n.shape;
      base = n.base;
      frame = n.frame;
      listed = n.listed;
      few = n.few;
      small = n.small;
      number = n.number;
      numbered = n.numbered;
      low = n.low;
      inside = n.inside;
    }

area_leaving : (k : Block) (os : List Outer) (x : Spot) → HasArea (leaving k []) x → HasArea (leaving k os) x
unfolding known_leaving
area_leaving k os x n =
    record {
      declared = n.declared;
      known = known_leaving k os x n.declared n.known;
      own = n.own;
      capacity = n.capacity;
      area = n.area;
      layer = n.layer;
      others = n.others;
      layers = n.layers;
      told = n.told;
      few = n.few;
    }

-- a begin block has one further out
none_behind : {A : Type 0} (n : ℕ) (x : A) (xs : List A) → drop n [] ≡ x ∷ xs → ⊥
none_behind zero x xs e = cc e
none_behind (suc n) x xs e = cc e

form_leaving :
    (program : Y.Program) (valued : Bool) (a : Running) (os : List Outer) →
    IsCalledForm program valued (with_outers [] a) ⊎ IsBegunForm program valued (with_outers [] a) →
    IsCalledForm program valued (with_outers os a) ⊎ IsBegunForm program valued (with_outers os a)
form_leaving program valued a os (inl f) =
    inl (record { function = f.function; kind = f.kind; saved = f.saved; ends = f.ends; owner = f.owner })
form_leaving program valued a os (inr f) = absurd (none_behind f.behind f.outer f.rest f.there)

-- a block that was entered just now, too
pub entered_leaving :
    {program : Y.Program} {m : Main program} {input : List ℕ} {acts : ℕ} {valued : Bool} {more : ℕ} (a : Running)
    {blocks : ℕ} (os : List Outer) → IsEntered m input acts valued more (with_outers [] a) blocks →
    IsBegun (block_of_run program input acts valued more (with_outers os a)) →
    IsEntered m input acts valued more (with_outers os a) blocks
entered_leaving {program} {m} {input} {acts} {valued} {more} a {blocks} os e b =
    let h = e.running in
    let k = block_of_run program input acts valued more (with_outers [] a) in
    record {
      running = record {
        own = h.own;
        shallow = h.shallow;
        level = h.level;
        held = record { own = h.held.own; begins = h.held.begins; all = h.held.all };
        home = form_leaving program valued a os h.home;
        placed = h.placed;
        statements = h.statements;
        fits = h.fits;
        waiting = h.waiting;
        begun = b;
        enough = h.enough;
        nested = record { own = h.nested.own; few = h.nested.few; some = h.nested.some; same = h.nested.same };
        variables = λ x is. number_leaving k os x (h.variables x is);
        arrays = λ x is.
            let n = h.arrays x is in
            record {
              initial = n.initial;
              known = known_leaving k os x _ n.known;
              type = n.type;
              bounds = n.bounds;
              some = n.some;
            };
        narrows = λ x is.
            let n = h.narrows x is in record { initial = n.initial; known = known_leaving k os x _ n.known };
        parameters = λ x is. parameter_leaving k os x b (h.parameters x is);
        named = λ x is. telling_leaving k os x (h.named x is);
        serials = h.serials;
        unraised = h.unraised;
        idle = h.idle;
        told = record { code = h.told.code; links = h.told.links; constants = h.told.constants };
        free = record {
          layer = h.free.layer;
          below = h.free.below;
          newest = h.free.newest;
          even = h.free.even;
          under = h.free.under;
          low = h.free.low;
          used = h.free.used;
          fits = h.free.fits;
        };
        tabled = h.tabled;
        depth = record { some = h.depth.some; all = h.depth.all };
      };
      words = e.words;
      clear = e.clear;
      pointers = λ x is.
          let n = e.pointers x is in
          record { known = known_leaving k os x _ n.known; own = n.own; low = n.low };
      areas = λ x is. area_leaving k os x (e.areas x is);
    }

-- ---- where the frame of one without parameters ends, and its stacks

pub record HasStacks (p q : Point) : Type 0 where
  pub entries : q.control.entries ≡ p.control.entries
  pub edits : q.control.edits ≡ p.control.edits

pub made_stacks : (φ : Layer) (xs : List Declared) (p : Point) → HasStacks p (all_made image_parts φ xs p)
made_stacks φ [] p = record { entries = refl; edits = refl }
made_stacks φ (x ∷ xs) p =
    let h = made_stacks (layer_behind image_parts (p.state.serials + 1) φ x) xs (behind_made image_parts φ x p) in
    record { entries = h.entries; edits = h.edits }

pub end_place :
    (parts : MemoryParts) (at : ℕ) (ds : List Y.DeclaredVariable) → are_plain ds ≡ true →
    at + bytes_of ds ≤ last_place → variable_place parts at ds (length ds) ≡ at + bytes_of ds
end_place parts at [] h fits = omega arith
end_place parts at (d ∷ ds) h fits =
    let a = and_parts (is_declared d) (are_plain ds) h in
    let frame = (makeable d a.0).frame parts in
    let next' : min last_place (at + frame_bytes parts d) ≡ at + variable_bytes d = omega (arith, fits, frame) in
    let rest = end_place parts (at + variable_bytes d) ds a.1 (omega (arith, fits)) in
    ap (λ n. variable_place parts n ds (length ds)) next' ∙ rest ∙ omega arith

-- a block whose list has a label saves all registers
pub labels_saved :
    (program : Y.Program) (label : Label) (body : Y.Stmts) → is_among label (labels_in body) ≡ true →
    held_registers ≤ stmts_held program body
labels_saved program label (Y.EndOfList []) e = absurd (cc e)
labels_saved program label (Y.EndOfList (l ∷ ls)) e = omega arith
labels_saved program label (Y.StmtThen [] first rest) e =
    let h = labels_saved program label rest e in
    omega (arith, h)
labels_saved program label (Y.StmtThen (l ∷ ls) first rest) e = omega arith

called_target :
    {program : Y.Program} (m : Main program) {input : List ℕ} {acts : ℕ} {valued : Bool} {more b : ℕ} {a : Running}
    {p : Point} {numbers : ℕ → ℕ} (o : Moment m input acts valued (suc more) a (suc b) p numbers) {v : Bool}
    {level number : ℕ} (i : Inner m a.head [] v level number) (call : ℕ) (os : List Outer) →
    DontPass (block_of_run program input acts valued (suc more) a) i →
    IsTarget program
    (with_outers os (entered_at i (block_of_run program input acts valued (suc more) a) call p numbers))
called_target {program} m {input} {acts} {valued} {more} {b} {a} {p} {numbers} o {v} i call os pass =
    let w = surroundings_for program input acts in
    let k = block_of_run program input acts valued (suc more) a in
    let c = callee_in i more k call in
    let φ = layer_for w p numbers c.procedure c.calling in
    let start = begun_at w c p numbers in
    let ds = variables_of_block program i.head.number in
    let first = fixed_size i.head.level 0 in
    let e = environment_for program i.head in
    let begun' = begun_room m o i c refl pass in
    let room = room_behind w start φ p.control.layers e first 0 0 ds i.own begun' in
    let same = made_stacks φ (words_in e) start in
    let top = ap (λ ls. upper_top image_parts ls) room.newest in
    let frame = ap (λ ls. frame_under image_parts ls) room.newest in
    let here = room.here in
    let counted = begun'.counted in
    let end : frame_end image_parts program i.head.number i.head.level ≡ first + bytes_of ds =
    ap (λ q. variable_place image_parts (fixed_size i.head.level (length (parameters_in q))) ds (length ds)) i.is
    ∙ end_place image_parts first ds i.own (omega (arith, counted)) in
    record {
      entries = same.entries;
      edits = same.edits;
      registers = λ held. omega (arith, held);
      top = omega (arith, top, frame, here, end);
    }

-- ---- its static ancestors are those of the calling block

same_there :
    (v : Bool) {program : Y.Program} (m : Main program) {input : List ℕ} {acts : ℕ} {valued : Bool} {more b : ℕ}
    {a : Running} {p : Point} {numbers : ℕ → ℕ}
    (o : Moment m input acts valued (suc more) a (suc b) p numbers) {level number : ℕ}
    (i : Inner m a.head [] v level number) (call : ℕ) →
    DontPass (block_of_run program input acts valued (suc more) a) i →
    IsBegun (block_of_run program input acts v more
    (entered_at i (block_of_run program input acts valued (suc more) a) call p numbers)) → (n : ℕ) → n ≤ level →
    ancestor_at (block_of_run program input acts v more
    (entered_at i (block_of_run program input acts valued (suc more) a) call p numbers)).first.state n
    ≡ ancestor_at (block_of_run program input acts valued (suc more) a).first.state n
same_there false {program} m {input} {acts} {valued} {more} {a = a} {p = p} {numbers = numbers} o {level} i call pass
    b' n low =
    let k = block_of_run program input acts valued (suc more) a in
    let h = is_inside m o i call in
    same_ancestor n (procedure_over k (callee_in i more k call) level h p numbers o.among (are_made m o i call pass) b')
    h.nested o.among h.around_it low
same_there true {program} m {input} {acts} {valued} {more} {a = a} {p = p} {numbers = numbers} o {level} i call pass
    b' n low =
    let k = block_of_run program input acts valued (suc more) a in
    let h = is_inside m o i call in
    same_ancestor n (function_over k (callee_in i more k call) level h p numbers o.among (are_made m o i call pass) b')
    h.nested o.among h.around_it low

-- ---- the calling block, as one further out

-- where a block begins that has it right behind it, with these labels, and with what its words tell then
own_landing :
    {program : Y.Program} (m : Main program) {input : List ℕ} {acts : ℕ} {valued : Bool} {more blocks : ℕ}
    {a : Running} {p : Point} {numbers : ℕ → ℕ} (o : Moment m input acts valued more a blocks p numbers)
    (layers : List Layer → List Layer) (labels : List Label) → Includes (labels_in a.body) labels → (label : Label) →
    is_among label (labels_in a.body) ≡ true → IsTarget program (record a { layers = layers }) → (r : Running) →
    r.form.outers
    ≡ as_outer (block_of_run program input acts valued more (record a { layers = layers })) labels ∷ a.form.outers →
    block_around (environment_for program r.head) a.head.level ≡ a.head.number →
    ancestor_at (r.form.behind r.made).state a.head.level
    ≡ ancestor_at (block_of_run program input acts valued more a).first.state a.head.level →
    IsLanding program r a.head.level label
own_landing {program} m {input} {acts} {valued} {more} {a = a} o layers labels includes label among t r outers block
    same =
    let k = block_of_run program input acts valued more (record a { layers = layers }) in
    let h = o.running in
    let there = label_of (links_for program) (linked_code (code_for program)) a.index (environment_of_run program a)
    none_taken a.body h.placed label among in
    let saved = labels_saved program label a.body among in
    record {
      behind = 0;
      outer = as_outer k labels;
      rest = a.form.outers;
      at = there.at;
      there = outers;
      carried = includes label among;
      found = ap height_of same
          ∙ sym (ap (λ xs. height_of (ancestor xs (newest_height xs) a.head.level)) o.among.later.activations)
          ∙ own_ancestor h.level (newest_at h.begun o.among);
      registers = t.registers saved;
      entries = t.entries;
      edits = t.edits;
      top = t.top
          ∙ ap (λ n. frame_under image_parts k.first.control.layers + frame_end image_parts program n a.head.level)
          (sym block);
      block = block;
      place = there.place;
      near = there.near;
    }

-- one further out than the calling block is so of what is called, too
outer_landing :
    {program : Y.Program} {a : Running} {level : ℕ} {label : Label} → IsLanding program a level label → (r : Running) →
    (first : Outer) → r.form.outers ≡ first ∷ a.form.outers →
    block_around (environment_for program a.head) level ≡ block_around (environment_for program r.head) level →
    ancestor_at (r.form.behind r.made).state level ≡ ancestor_at (a.form.behind a.made).state level →
    IsLanding program r level label
outer_landing {program} {a} {level} z r first outers alike same =
    record {
      behind = suc z.behind;
      outer = z.outer;
      rest = z.rest;
      at = z.at;
      there = ap (drop (suc z.behind)) outers ∙ z.there;
      carried = z.carried;
      found = ap height_of same ∙ z.found;
      registers = z.registers;
      entries = z.entries;
      edits = z.edits;
      top = z.top
          ∙ ap (λ n. frame_under image_parts z.outer.first.control.layers + frame_end image_parts program n level)
          alike;
      block = sym alike ∙ z.block;
      place = z.place;
      near = z.near;
    }

-- ---- all of it

-- a block is declared in one at a level around another
pub record IsIn (program : Y.Program) (around inner : Y.BlockHead) (level : ℕ) : Type 0 where
  pub inside : inner.level ≡ suc level
  pub around_it : level ≤ around.level
  pub alike : stand_alike (environment_for program around) (environment_for program inner) level ≡ true

pub inner_in :
    {program : Y.Program} {m : Main program} {caller : Y.BlockHead} {ns : List ℕ} {v : Bool} {level number : ℕ}
    (i : Inner m caller ns v level number) → IsIn program caller i.head level
inner_in i = record { inside = i.inside; around_it = i.around_it; alike = i.alike }

-- each label around it stands in the calling block, or further out
pub landing_by :
    {program : Y.Program} (m : Main program) {input : List ℕ} {acts : ℕ} {valued : Bool} {more blocks : ℕ}
    {a : Running} {p : Point} {numbers : ℕ → ℕ} (o : Moment m input acts valued more a blocks p numbers)
    (layers : List Layer → List Layer) → HasLandings m a →
    (is_jumped_to program m.called a.head.level a.head.number ≡ true → (label : Label) →
    is_among label (labels_of program a.head.number) ≡ true → IsTarget program (record a { layers = layers })) →
    (labels : List Label) →
    (is_jumped_to program m.called a.head.level a.head.number ≡ true → Includes (labels_in a.body) labels) →
    {level : ℕ} (r : Running) → IsIn program a.head r.head level →
    r.form.outers
    ≡ as_outer (block_of_run program input acts valued more (record a { layers = layers })) labels ∷ a.form.outers →
    ((n : ℕ) → n ≤ level →
    ancestor_at (r.form.behind r.made).state n
    ≡ ancestor_at (block_of_run program input acts valued more a).first.state n) →
    (n : ℕ) (label : Label) → is_label_around program m.called r.head n label ≡ true → IsLanding program r n label
landing_by {program} m {input} {acts} {valued} {more} {a = a} o layers lands target labels includes {level = level} r i
    outers same n label out =
    by (n == a.head.level) refl
  where
    e : Environment
    e = environment_for program r.head

    k : Block
    k = block_of_run program input acts valued more (record a { layers = layers })

    jumped : Bool
    jumped = is_jumped_to program m.called n (block_around e n)

    among : Bool
    among = is_among label (labels_of program (block_around e n))

    p0 : (nat_lt n r.head.level ≡ true) × ((jumped && among) ≡ true)
    p0 = and_parts (nat_lt n r.head.level) (jumped && among) out

    p1 : (jumped ≡ true) × (among ≡ true)
    p1 = and_parts jumped among p0.1

    low : n ≤ level
    low =
        let less = ltb-true n r.head.level p0.0 in
        let inside = i.inside in
        omega (arith, less, inside)

    alike : block_around (environment_for program a.head) n ≡ block_around e n
    alike =
        alike_at (environment_for program a.head) (environment_for program r.head) level n i.alike low

    by : (q : Bool) → (n == a.head.level) ≡ q → IsLanding program r n label
    by true e' =
        let is = eqb-true n a.head.level e' in
        let block : block_around e n ≡ a.head.number = sym alike
        ∙ ap (λ j. block_around (environment_for program a.head) j) is ∙ o.running.own in
        let jumps = subst (λ j. is_jumped_to program m.called n j ≡ true) block p1.0 in
        let jumps' = subst (λ j. is_jumped_to program m.called j a.head.number ≡ true) is jumps in
        let known = subst (λ j. is_among label (labels_of program j) ≡ true) block p1.1 in
        let named = lands.own label known in
        subst (λ j. IsLanding program r j label) (sym is)
        (own_landing m o layers labels (includes jumps') label named (target jumps' label known) r outers
        (subst (λ j. block_around e j ≡ a.head.number) is block) (same a.head.level (subst (λ j. j ≤ level) is low)))
    by false e' =
        let apart = eqb-false n a.head.level e' in
        let within = i.around_it in
        let less : n < a.head.level = omega (arith, apart, within, low) in
        let there = and_from (nat_lt n a.head.level)
        (is_jumped_to program m.called n (block_around (environment_for program a.head) n)
        && is_among label (labels_of program (block_around (environment_for program a.head) n)))
        (lt-ltb n a.head.level less)
        (subst (λ j. (is_jumped_to program m.called n j && is_among label (labels_of program j)) ≡ true) (sym alike)
        p0.1) in
        outer_landing (lands.far n label there) r (as_outer k labels) outers alike (same n low)

pub called_landings :
    {program : Y.Program} (m : Main program) {input : List ℕ} {acts : ℕ} {valued : Bool} {more b : ℕ} {a : Running}
    {p : Point} {numbers : ℕ → ℕ} (o : Moment m input acts valued (suc more) a (suc b) p numbers) →
    HasLandings m a → (labels : List Label) →
    (is_jumped_to program m.called a.head.level a.head.number ≡ true → Includes (labels_in a.body) labels) →
    {v : Bool} {level number : ℕ} (i : Inner m a.head [] v level number) (call : ℕ) →
    DontPass (block_of_run program input acts valued (suc more) a) i →
    IsBegun (block_of_run program input acts v more
    (entered_at i (block_of_run program input acts valued (suc more) a) call p numbers)) →
    HasLandings m
    (with_outers (as_outer (block_of_run program input acts valued (suc more) a) labels ∷ a.form.outers)
    (entered_at i (block_of_run program input acts valued (suc more) a) call p numbers))
called_landings {program} m {input} {acts} {valued} {more} {a = a} {p = p} {numbers = numbers} o lands labels includes
    {v} i call pass b' =
    let k = block_of_run program input acts valued (suc more) a in
    let os = as_outer k labels ∷ a.form.outers in
    let r = with_outers os (entered_at i k call p numbers) in
    record {
      far = λ n label out.
          landing_by m o a.layers lands lands.target labels includes r (inner_in i) refl
          (λ j low. same_there v m o i call pass b' j low) n label out;
      own = λ label among. subst (λ ls. is_among label ls ≡ true) (ap labels_if i.is) among;
      target = λ jumped label among. called_target m o i call os pass;
    }
