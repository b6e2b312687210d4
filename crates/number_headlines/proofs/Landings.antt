-- Jumps out of a block of the class: for each label around it, the block further out whose list has it.
use Rattle.std.proofs.Common.{◌≡◌, ℕ, ◌+◌, ◌*◌, ◌^◌, ◌<◌, ◌≤◌, List, [], ◌∷◌, ◌++◌, length, Option, Bool, true, false}
use Rattle.std.proofs.Common.{◌∙◌, subst, arith}
use Rattle.std.specs.Prelude.{◌&&◌, drop, nat_lt, not}
use Rattle.std.proofs.lemmas.Bool.{and_parts, ltb-true, or_left}
use Rattle.std.proofs.lemmas.List.Folds.{list_any-append}
use Rattle.pli_language.specs.Keywords.{same_bytes}
use Rattle.pli_typing.specs.TypedTree as Y
use Rattle.pli_meaning.specs.Control.{Label, is_among}
use Rattle.pli_meaning.specs.Executing.{labels_in}
use Rattle.pli_meaning.specs.StorageState.{ancestor_at, height_of}
use Rattle.pli_serving.specs.ServiceState.{Entry}
use Rattle.pli_coding.specs.Assembly.{LabelPlace}
use Rattle.pli_coding.specs.Environments.{block_around}
use Rattle.pli_coding.specs.Frames.{frame_end}
use Rattle.pli_coding.specs.Linking.{place_of}
use Rattle.pli_coding.specs.Registers.{held_registers}
use Rattle.pli_coding.specs.Statements.{stmts_held}
use Rattle.activation_relation.specs.FrameLaws.{with_waits}
use Rattle.activation_relation.specs.Frames.{frame_under, upper_top}
use Rattle.activation_relation.specs.Layers.{Layer}
use Rattle.run_steps.specs.Engine.{most_code}
use Rattle.program_places.specs.Programs.{environment_for, links_for}
use Rattle.program_runs.specs.Calls.{left_over}
use Rattle.program_runs.specs.Starts.{image_parts}
use Rattle.program_runs.specs.Statements.{EachDoes, Outer}
use Rattle.begin_runs.proofs.FarGotos.{far_does}
use Rattle.number_runs.specs.Knowledge.{Includes, KnowsJumps}
use Rattle.number_headlines.specs.Jumps.{is_jumped_to, is_label_around, labels_of}
use Rattle.number_headlines.specs.Programs.{scope_of}
use Rattle.number_headlines.proofs.Mains.{Main}
use Rattle.number_headlines.proofs.Running.{IsEntered, IsRunning, Running, block_of_run, told_run, waited_run}

-- ---- what is known of the blocks further out

-- one of them is carrying out a list with the label, and is the static ancestor at the level; it saves all registers,
-- and its stack ends behind its frame
pub record IsLanding (program : Y.Program) (a : Running) (level : ℕ) (label : Label) : Type 0 where
  pub behind : ℕ
  pub outer : Outer
  pub rest : List Outer
  pub at : ℕ
  pub there : drop behind a.form.outers ≡ outer ∷ rest
  pub carried : is_among label outer.labels ≡ true
  pub found :
      height_of (ancestor_at (a.form.behind a.made).state level) ≡ length outer.point.state.activations + 1
  pub registers : held_registers ≤ outer.registers
  pub entries : outer.first.control.entries ≡ outer.beginning.layer.entries
  pub edits : outer.first.control.edits ≡ outer.beginning.layer.edits
  pub top :
      upper_top image_parts outer.first.control.layers
      ≡ frame_under image_parts outer.first.control.layers
      + frame_end image_parts program (block_around (environment_for program a.head) level) level
  pub block : block_around (environment_for program a.head) level ≡ outer.environment.block
  pub place : place_of (links_for program) (LabelPlace outer.environment.block label) ≡ 4 * at
  pub near : at ≤ most_code

-- the block itself, as one further out of what is called from it: no text waits there, and it saves the registers that
-- a label wants
pub record IsTarget (program : Y.Program) (a : Running) : Type 0 where
  pub entries : a.texts (a.form.behind a.made).control.entries ≡ a.layer.entries
  pub edits : (a.form.behind a.made).control.edits ≡ a.layer.edits
  pub registers : held_registers ≤ stmts_held program a.body → held_registers ≤ a.form.registers
  pub top :
      upper_top image_parts (a.layers (a.form.behind a.made).control.layers)
      ≡ frame_under image_parts (a.layers (a.form.behind a.made).control.layers)
      + frame_end image_parts program a.head.number a.head.level

pub record HasLandings {program : Y.Program} (m : Main program) (a : Running) : Type 0 where
  pub far :
      (level : ℕ) (label : Label) → is_label_around program m.called a.head level label ≡ true →
      IsLanding program a level label
  -- its own labels, if what it calls may name them; a begin block has none of these
  pub own :
      (label : Label) → is_among label (labels_of program a.head.number) ≡ true →
      is_among label (labels_in a.body) ≡ true
  pub target :
      is_jumped_to program m.called a.head.level a.head.number ≡ true → (label : Label) →
      is_among label (labels_of program a.head.number) ≡ true → IsTarget program a

-- the statements of each block that may be entered so many deep do what they mean
abbrev pub EachBody : {program : Y.Program} → Main program → (input : List ℕ) → (acts more : ℕ) → Type 0
EachBody {program} m input acts more =
    (valued : Bool) (a : Running) (blocks : ℕ) → IsEntered m input acts valued more a blocks → HasLandings m a →
    EachDoes (block_of_run program input acts valued more a) (labels_in a.body ++ []) a.body a.index left_over

-- ---- so its jumps out come to what they mean

pub jumps_known :
    {program : Y.Program} (m : Main program) (input : List ℕ) (acts : ℕ) (valued : Bool) (more : ℕ) (a : Running)
    (blocks : ℕ) → acts + 1 < 2 ^ 64 → IsRunning m input acts valued more a blocks → HasLandings m a →
    (own : List Label) →
    KnowsJumps (scope_of program m.called a.head a.body) (block_of_run program input acts valued more a) own left_over
jumps_known {program} m input acts valued more a blocks few h lands own labels level label line index includes out less
    l =
    let around = is_jumped_to program m.called level (block_around (environment_for program a.head) level)
    && is_among label (labels_of program (block_around (environment_for program a.head) level)) in
    let inner = ltb-true level a.head.level (and_parts (nat_lt level a.head.level) around out).0 in
    let z = lands.far level label out in
    let same = h.level in
    let shallow = h.shallow in
    far_does (block_of_run program input acts valued more a) labels
    (record {
      behind = z.behind;
      outer = z.outer;
      rest = z.rest;
      level = level;
      label = label;
      at = z.at;
    })
    line index left_over
    (record { line_fits = less; acts = few })
    (record {
      begun = h.begun;
      there = z.there;
      carried = z.carried;
      own = same;
      inner = omega (arith, inner, same);
      few = omega (arith, shallow, same);
      found = z.found;
      registers = z.registers;
      entries = z.entries;
      edits = z.edits;
      top = z.top;
      block = z.block;
      place = z.place;
      near = z.near;
    })
    l

-- a block's own list has its labels
pub own_included : (body : Y.Stmts) → Includes (labels_in body) (labels_in body ++ [])
own_included body label among =
    list_any-append (same_bytes label) (labels_in body) []
    ∙ or_left (is_among label (labels_in body)) false among

-- ---- while limits of loops wait in words of its frame, and texts on their stack

pub jumps_not : (q : Bool) → not q ≡ true → q ≡ true → ⊥
jumps_not true h e = cc h
jumps_not false h e = cc e

same_landing :
    {program : Y.Program} {a : Running} {level : ℕ} {label : Label} (layers : List Layer → List Layer)
    (texts : List Entry → List Entry) → IsLanding program a level label →
    IsLanding program (record a { layers = layers; texts = texts }) level label
same_landing layers texts z =
    record {
      behind = z.behind;
      outer = z.outer;
      rest = z.rest;
      at = z.at;
      there = z.there;
      carried = z.carried;
      found = z.found;
      registers = z.registers;
      entries = z.entries;
      edits = z.edits;
      top = z.top;
      block = z.block;
      place = z.place;
      near = z.near;
    }

pub told_landings :
    {program : Y.Program} {m : Main program} {a : Running} (waits : ℕ → Option ℕ) (φ : Layer) (φs : List Layer) →
    a.layers (a.form.behind a.made).control.layers ≡ φ ∷ φs → HasLandings m a → HasLandings m (told_run a waits φ φs)
told_landings {program} {m} {a} waits φ φs newest h =
    record {
      far = λ level label out. same_landing (λ ls. with_waits waits φ ∷ φs) a.texts (h.far level label out);
      own = h.own;
      target = λ jumped label among.
          let t = h.target jumped label among in record {
            entries = t.entries;
            edits = t.edits;
            registers = t.registers;
            top = subst (λ ls. upper_top image_parts ls
                ≡ frame_under image_parts ls + frame_end image_parts program a.head.number a.head.level) newest t.top;
          };
    }

-- none of its own labels is named while texts wait
pub waited_landings :
    {program : Y.Program} {m : Main program} {a : Running} (entries : List Entry) →
    not (is_jumped_to program m.called a.head.level a.head.number) ≡ true → HasLandings m a →
    HasLandings m (waited_run a entries)
waited_landings {program} {m} {a} entries none h =
    record {
      far = λ level label out. same_landing a.layers (λ es. entries ++ a.texts es) (h.far level label out);
      own = h.own;
      target = λ jumped label among.
          absurd (jumps_not (is_jumped_to program m.called a.head.level a.head.number) none jumped);
    }
