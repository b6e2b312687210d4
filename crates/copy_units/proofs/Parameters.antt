-- A parameter is one whatever units its block has by then.
use Rattle.std.proofs.Common.{◌≡◌, ℕ, List, [], ◌∷◌, Bool, Some, true, false, refl, ap, ◌∙◌}
use Rattle.std.specs.Prelude.{◌*◌, ◌==◌, cond}
use Rattle.pli_language.specs.declared.condition.Condition.{Condition}
use Rattle.pli_typing.specs.TypedTree as Y
use Rattle.pli_meaning.specs.StorageState as St
use Rattle.pli_meaning.specs.StorageState.{Activation, BlockUnit, ancestor, binding_in, newest_height, without_unit}
use Rattle.pli_serving.specs.ServiceState.{CodeUnit}
use Rattle.activation_relation.specs.Changes.{newest_with, units_of}
use Rattle.activation_relation.specs.Landing.{with_units}
use Rattle.program_runs.specs.Statements.{Block, IsBegun}
use Rattle.expression_runs.specs.Variables.{Spot}
use Rattle.unit_runs.specs.Changing.{IsPast, Past, after}
use Rattle.unit_runs.specs.Establishing.{OnUnit, behind_on, unit_index, unit_of}
use Rattle.unit_runs.proofs.Changing.{begun_after}
use Rattle.argument_runs.specs.Parameters.{IsParameter}

binding_same :
    (c : Condition) (u : St.OnUnit) (as' : List Activation) (level variable : ℕ) →
    binding_in (ancestor (St.established c u as') (newest_height (St.established c u as')) level) variable
    ≡ binding_in (ancestor as' (newest_height as') level) variable
binding_same c u [] level variable = refl
binding_same c u (a ∷ as') level variable =
    by (a.height == a.height) (a.level == level)
  where
    by :
        (q r : Bool) →
        binding_in (cond q (cond r (Some (with_units ((c, u) ∷ without_unit c a.units) a))
        (ancestor as' a.parent level)) (ancestor as' a.height level)) variable
        ≡ binding_in (cond q (cond r (Some a) (ancestor as' a.parent level)) (ancestor as' a.height level)) variable
    by true true = refl
    by true false = refl
    by false r = refl

unit_parameter :
    (k : Block) (x : OnUnit) (index : ℕ) (spot : Spot) → IsBegun (behind_on k x index) → IsParameter k spot →
    IsParameter (behind_on k x index) spot
unit_parameter k x index spot b n =
    let u = BlockUnit (unit_of x) in
    let own = CodeUnit (4 * unit_index x index) in
    record {
      begun = b;
      declared = n.declared;
      place = n.place;
      numbered_so = n.numbered_so;
      near = n.near;
      own = n.own;
      serial = n.serial;
      binding = binding_same x.condition u k.first.state.activations spot.level spot.index ∙ n.binding;
      living = n.living;
      lives = n.lives;
      shape = n.shape;
      layer = record n.layer { units = (x.condition, own) ∷ without_unit x.condition n.layer.units };
      caller = n.caller;
      others = n.others;
      signature = n.signature;
      layers = ap (λ ls. newest_with ((x.condition, own) ∷ without_unit x.condition (units_of ls)) ls) n.layers;
      at = n.at;
      list = n.list;
      last = n.last;
      under = n.under;
      name = n.name;
      level = n.level;
      few = n.few;
      words = n.words;
      small = n.small;
      number = n.number;
      numbered = n.numbered;
      low = n.low;
      inside = n.inside;
    }

pub past_parameter :
    (k : Block) (body : Y.Stmts) (start : ℕ) (past : Past) (x : Spot) → IsPast k body start past → IsParameter k x →
    IsParameter (after k past) x
past_parameter k body start [] x known n = n
past_parameter k body start (e ∷ past) x known n =
    unit_parameter (after k past) e.0 e.1 x (begun_after k body start (e ∷ past) n.begun known)
    (past_parameter k body start past x known.2 n)
