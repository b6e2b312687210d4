-- An area of constant size among the variables of a block: what it takes, and that it can be made.
use Rattle.std.proofs.Common.{◌≡◌, ℕ, ◌+◌, ◌^◌, ◌<◌, ◌≤◌, List, [], true, refl, ap, ◌∙◌}
use Rattle.std.proofs.Common.{arith}
use Rattle.std.specs.Prelude.{◌%◌, ◌*◌, ◌/◌, ◌&&◌, if◌then◌else◌}
use Rattle.std.proofs.lemmas.Bool.{le-leb}
use Rattle.pli_typing.specs.Signatures.{data_size, rounded_down}
use Rattle.pli_typing.specs.TypedTree as Y
use Rattle.pli_meaning.specs.Contents.{footprint_of}
use Rattle.pli_meaning.specs.DeclaredShapes.{shape_of}
use Rattle.run_keeper.specs.RunKeeper.{run_keeper}
use Rattle.pli_coding.specs.Environments.{Environment}
use Rattle.pli_coding.specs.Frames.{MemoryParts, frame_bytes, has_constant_size, name_bytes}
use Rattle.activation_relation.specs.Layers.{Layer, Point}
use Rattle.activation_relation.specs.Points.{Surroundings}
use Rattle.program_runs.specs.Variables.{generation_for}
use Rattle.variable_runs.specs.Areas.{IsArea}
use Rattle.number_runs.specs.Variables.{HaveRoom, IsTabled}
use Rattle.number_runs.proofs.Based.{area_declared}
use Rattle.number_runs.proofs.Words.{word_made}

-- what it holds
abbrev pub capacity_in : (bytes : ℕ) → ℕ
capacity_in n = rounded_down 16 n

pub constant_area : (n : ℕ) → n ≤ 2 ^ 20 → has_constant_size (area_declared n) ≡ true
constant_area n few =
    ap (λ q. (q && true) && true) (le-leb (capacity_in n) (2 ^ 20) (omega (arith, few)))

-- what it takes in the frame
pub record IsFrame (parts : MemoryParts) (n : ℕ) : Type 0 where
  pub holds : name_bytes + run_keeper.bytes_for (capacity_in n) ≤ frame_bytes parts (area_declared n)
  pub size : name_bytes + data_size (shape_of [] (area_declared n)).signature ≤ frame_bytes parts (area_declared n)
  pub counts : (e : Environment) (place index : ℕ) →
      footprint_of (generation_for (word_made e place index (area_declared n)))
      ≤ frame_bytes parts (area_declared n)
  pub even : frame_bytes parts (area_declared n) % 16 ≡ 0

pub area_frame :
    (parts : MemoryParts) (n : ℕ) → parts.area_bytes ≡ run_keeper.bytes_for → n ≤ 2 ^ 20 → IsFrame parts n
area_frame parts n keeper few =
    let constant = constant_area n few in
    let c = capacity_in n in
    let is : frame_bytes parts (area_declared n) ≡ 16 + (run_keeper.bytes_for c + 15) / 16 * 16 =
    ap (λ q. name_bytes + (if q then (parts.area_bytes c + 15) / 16 * 16 else 0)) constant
    ∙ ap (λ (b : ℕ → ℕ). name_bytes + (b c + 15) / 16 * 16) keeper in
    record {
      holds = omega (arith, is);
      size = omega (arith, is);
      counts = λ e place index. omega (arith, is);
      even = omega (arith, is);
    }

pub area_made :
    (w : Surroundings) (p : Point) (φ : Layer) (φs : List Layer) (e : Environment) (place index more n : ℕ) →
    w.parts.area_bytes ≡ run_keeper.bytes_for → n ≤ 2 ^ 20 → IsTabled e p.places.signatures (area_declared n) →
    p.state.serials + 1 < 2 ^ 64 →
    HaveRoom w p φ φs place (frame_bytes w.parts (area_declared n) + more) →
    IsArea w p (word_made e place index (area_declared n)) φ φs
area_made w p φ φs e place index more n keeper few table serial h =
    let here = h.here in
    let even = h.even in
    let counted = h.counted in
    let fits = h.fits in
    let limit = h.limit in
    let f = area_frame w.parts n keeper few in
    let holds = f.holds in
    let size = f.size in
    let counts = f.counts e place index in
    let whole' = f.even in
    record {
      newest = h.newest;
      here = h.here;
      capacity = capacity_in n;
      holds = omega (arith, counted, holds);
      size = omega (arith, counted, size);
      fits = omega (arith, here, fits, counted);
      even = omega (arith, here, even, counted, whole');
      low = h.low;
      shape = table.shape;
      number = table.small;
      initial = refl;
      none = refl;
      area = refl;
      fixed = refl;
      rounded = omega arith;
      bounded = omega (arith, few);
      serial = serial;
      limit = le-leb _ _ (omega (arith, limit, counts));
    }
