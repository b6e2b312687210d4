-- RETURN in a begin block: it goes on in the blocks around it, and ends their procedure.
use Rattle.std.specs.Prelude.{ℕ, ◌+◌, ◌*◌, ◌<◌, ◌≤◌, ◌≡◌, true, false, List, [], ◌∷◌, None, ⊤, length, drop, zero, suc}
use Rattle.pli_typing.specs.TypedTree as Y
use Rattle.pli_meaning.specs.Control.{Label}
use Rattle.pli_meaning.specs.StorageState.{ancestor_at, height_of}
use Rattle.pli_coding.specs.Assembly.{ReturnPlace}
use Rattle.pli_coding.specs.Environments.{BlockOwner, none_taken}
use Rattle.pli_coding.specs.Linking.{place_of}
use Rattle.pli_coding.specs.Statements.{stmt_code}
use Rattle.activation_relation.specs.CodeStores.{most_levels}
use Rattle.activation_relation.specs.Landing.{is_begin}
use Rattle.run_steps.specs.Engine.{most_code}
use Rattle.run_steps.specs.Items.{Linked}
use Rattle.program_runs.specs.Statements.{Block, Does, HasAct, IsBegun, Outer}

-- so many begin blocks, the nearest first
abbrev pub AreBegins : ℕ → List Outer → Type 0
AreBegins zero os = ⊤
AreBegins (suc n) [] = ⊥
AreBegins (suc n) (o ∷ os) = (is_begin o.beginning.layer.kind ≡ true) × AreBegins n os

-- the procedure, behind so many begin blocks, and the level of its frame
pub record Through : Type 0 where
  pub behind : ℕ
  pub outer : Outer
  pub rest : List Outer
  pub level : ℕ

pub record IsThrough (k : Block) (x : Through) (left' : ℕ) : Type 0 where
  pub begun : IsBegun k
  pub there : drop x.behind k.outers ≡ x.outer ∷ x.rest
  pub begins : (is_begin k.call.beginning.layer.kind ≡ true) × AreBegins x.behind k.outers
  pub procedure : is_begin x.outer.beginning.layer.kind ≡ false
  pub function : x.outer.function ≡ None
  pub own : k.environment.level ≡ k.call.beginning.layer.level
  pub inner : x.level < k.call.beginning.layer.level
  pub few : k.call.beginning.layer.level < most_levels
  pub found : height_of (ancestor_at k.first.state x.level) ≡ length x.outer.point.state.activations + 1
  -- registers are those that it saves
  pub registers : k.registers ≤ x.outer.beginning.layer.saved
  pub numbers : k.call.numbers ≡ x.outer.numbers
  pub owner :
      k.environment.owner ≡ BlockOwner (record { number = x.outer.beginning.head.number; level = x.level })
  pub end : place_of k.call.surroundings.links (ReturnPlace x.outer.beginning.head.number) ≡ 4 * x.outer.end
  pub near : x.outer.end ≤ most_code
  pub enough : 2 ≤ left'

-- the begin blocks end, and the procedure comes to its end
abbrev pub ThroughReturnsDo : Type 0
ThroughReturnsDo =
    (k : Block) (labels : List Label) (x : Through) (line index left' : ℕ) → HasAct k line → IsThrough k x left' →
    Linked k.call.surroundings.links k.call.code index (stmt_code k.environment none_taken (Y.Return line)) →
    Does k labels (Y.Return line) index left'
