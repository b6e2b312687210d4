-- A procedure's variable at any point of the block that calls it, if it can be made at the block's first statement.
use Rattle.std.proofs.Common.{◌≡◌, ℕ, ◌+◌, ◌%◌, ◌≤◌, List, [], true, refl, sym, subst}
use Rattle.std.specs.Prelude.{nat_le}
use Rattle.pli_meaning.specs.Contents.{footprint_of}
use Rattle.pli_meaning.specs.DeclaredShapes.{shape_of}
use Rattle.pli_meaning.specs.StorageState.{most_automatic}
use Rattle.activation_relation.specs.Layers.{Layer, Point}
use Rattle.activation_relation.proofs.Returning.{in_use_later}
use Rattle.activation_relation.proofs.Remaining.{shapes_remain}
use Rattle.program_runs.specs.Calls.{Callee, begun_at}
use Rattle.program_runs.specs.Procedures.{layer_for}
use Rattle.program_runs.specs.Statements.{Block, IsAmong, IsBegun}
use Rattle.program_runs.specs.Variables.{Declared, IsDeclared, IsOnly, generation_for, place_behind}

declared_among :
    {k : Block} {numbers : ℕ → ℕ} {p : Point} (c : Callee) (d : Declared) (held : ℕ → ℕ) → IsBegun k →
    IsAmong k numbers p →
    IsDeclared k.call.surroundings (begun_at k.call.surroundings c k.first held) d
    (layer_for k.call.surroundings k.first held c.procedure c.calling) k.first.control.layers →
    IsDeclared k.call.surroundings (begun_at k.call.surroundings c p held) d
    (layer_for k.call.surroundings p held c.procedure c.calling) p.control.layers
declared_among {k} {numbers} {p} c d held b o h =
    let w = k.call.surroundings in
    let φ : Point → Layer = λ q. layer_for w q held c.procedure c.calling in
    let same = o.later.layers in
    record {
      newest = refl;
      here = subst (λ ls. (φ (with_layers ls)).at + d.place ≡ (φ (with_layers ls)).top) (sym same) h.here;
      holds = h.holds;
      size = h.size;
      fits = subst (λ ls. (φ (with_layers ls)).at + place_behind w.parts d ≤ (φ (with_layers ls)).lower) (sym same)
          h.fits;
      even = subst (λ ls. ((φ (with_layers ls)).at + place_behind w.parts d) % 16 ≡ 0) (sym same) h.even;
      low = subst (λ n. n ≤ w.parts.stack_start) (sym o.later.remains.low) h.low;
      shape = shapes_remain o.later.remains d.number (shape_of [] d.declared) h.shape;
      number = h.number;
      initial = h.initial;
      none = h.none;
      plain = h.plain;
      fixed = h.fixed;
      values = h.values;
      valued = h.valued;
      limit = subst (λ n. nat_le (n + footprint_of (generation_for d)) most_automatic ≡ true)
          (sym (in_use_later w k.first p b.resumes.stands o.stands o.later)) h.limit;
    }
  where
    with_layers : List Layer → Point
    with_layers ls = record p { control = record p.control { layers = ls } }

pub only_among :
    (k : Block) (c : Callee) (d : Declared) (p : Point) (numbers held : ℕ → ℕ) → IsBegun k → IsAmong k numbers p →
    IsOnly k.call.surroundings c k.first held d → IsOnly k.call.surroundings c p held d
only_among k c d p numbers held b o h =
    record {
      kind = h.kind;
      variables = h.variables;
      class = h.class;
      evaluations = h.evaluations;
      first = h.first;
      code = h.code;
      made = h.made;
      table = h.table;
      parts = h.parts;
      few = h.few;
      declared = declared_among c d held b o h.declared;
    }
