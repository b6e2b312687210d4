-- The main procedure's block as one further out: no block is around it, and its frame ends behind its variables, areas
-- among them.
use Rattle.std.proofs.Common.{◌≡◌, ℕ, ◌+◌, ◌≤◌, List, [], ◌∷◌, length, true, false, refl, ap, ◌∙◌, subst, arith}
use Rattle.std.specs.Prelude.{min, nat_lt}
use Rattle.std.proofs.lemmas.Bool.{and_parts, ltb-true}
use Rattle.pli_typing.specs.TypedTree as Y
use Rattle.pli_meaning.specs.Control.{is_among}
use Rattle.pli_meaning.specs.DeclaredShapes.{variables_of_block}
use Rattle.pli_coding.specs.Frames.{MemoryParts, fixed_size, frame_bytes, frame_end, last_place, parameters_in}
use Rattle.pli_coding.specs.Frames.{variable_place}
use Rattle.activation_relation.specs.Frames.{frame_under, upper_top}
use Rattle.program_places.specs.Programs.{body_for, environment_for}
use Rattle.program_places.proofs.Starts.{main_found}
use Rattle.program_runs.specs.Starts.{image_parts, no_numbers}
use Rattle.number_runs.specs.Areas.{held_bytes, held_in}
use Rattle.number_runs.proofs.AreaWords.{held_behind}
use Rattle.number_headlines.specs.Jumps.{labels_if}
use Rattle.number_headlines.proofs.CalledLandings.{made_stacks}
use Rattle.number_headlines.proofs.Landings.{HasLandings}
use Rattle.number_headlines.proofs.Mains.{Main, level_of, main_begun, main_for, main_layer, main_spare, placed, spare}
use Rattle.number_headlines.proofs.Mains.{start_for, surroundings_for}
use Rattle.number_headlines.proofs.Running.{Running, run_of}
use Rattle.number_headlines.proofs.Tables.{held_block}

abbrev pub main_run : {program : Y.Program} → Main program → (input : List ℕ) → (acts : ℕ) → Running
main_run {program} m input acts =
    run_of false (surroundings_for program input acts) (main_for m input acts) (body_for program m.head m.body)
    (start_for program input acts) no_numbers

-- ---- where its frame ends

held_end :
    (parts : MemoryParts) (at : ℕ) (ds : List Y.DeclaredVariable) → at + held_bytes parts ds ≤ last_place →
    variable_place parts at ds (length ds) ≡ at + held_bytes parts ds
held_end parts at [] fits = omega arith
held_end parts at (d ∷ ds) fits =
    let next' : min last_place (at + frame_bytes parts d) ≡ at + frame_bytes parts d = omega (arith, fits) in
    let rest = held_end parts (at + frame_bytes parts d) ds (omega (arith, fits)) in
    ap (λ n. variable_place parts n ds (length ds)) next' ∙ rest ∙ omega arith

pub main_landings :
    {program : Y.Program} (m : Main program) (input : List ℕ) (acts : ℕ) → HasLandings m (main_run m input acts)
main_landings {program} m input acts =
    let w = surroundings_for program input acts in
    let start = main_begun m input acts in
    let φ = main_layer m input acts in
    let e = environment_for program m.head in
    let xs = held_in e in
    let ds = variables_of_block program m.head.number in
    let first = fixed_size m.head.level 0 in
    let found = main_found program (placed m) m.main in
    let spared = main_spare m input acts in
    let held = held_block program.variables m.head.number m.known m.own in
    let room = held_behind w start φ [] e first 0 spare ds refl refl held.any spared in
    let same = made_stacks φ xs start in
    let top = ap (λ ls. upper_top image_parts ls) room.newest in
    let frame = ap (λ ls. frame_under image_parts ls) room.newest in
    let here = room.here in
    let counted = spared.counted in
    let level = level_of m in
    let end : frame_end image_parts program m.head.number m.head.level ≡ first + held_bytes image_parts ds =
    ap (λ q. variable_place image_parts (fixed_size m.head.level (length (parameters_in q))) ds (length ds)) found
    ∙ held_end image_parts first ds (omega (arith, counted)) in
    record {
      far = λ n label out.
          let less = ltb-true n m.head.level (and_parts (nat_lt n m.head.level) _ out).0 in
          absurd (omega (arith, less, level));
      own = λ label among. subst (λ ls. is_among label ls ≡ true) (ap labels_if found) among;
      target = λ jumped label among. record {
        entries = same.entries;
        edits = same.edits;
        registers = λ held. omega (arith, held);
        top = omega (arith, top, frame, here, end);
      };
    }
