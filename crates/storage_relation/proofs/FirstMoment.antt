-- The first moment of a run: nothing lives, and all that is said of storage holds.
use Rattle.std.proofs.Common.{◌≡◌, ℕ, List, length, [], Option, Some, false, ◌≢◌, refl, sym, ap, subst, arith}
use Rattle.pli_meaning.specs.StorageState.{first_state}
use Rattle.pli_types.specs.Templates.{Template}
use Rattle.area_keeper.specs.Keeper.{Keeper}
use Rattle.area_keeper.specs.KeeperLaws.{Keeps}
use Rattle.pli_serving.specs.ServiceState as S
use Rattle.storage_relation.specs.Controlled.{offsets_in, Variable, StacksStand, AllLive, same_variable, AreOnce}
use Rattle.storage_relation.specs.Controlled.{AreApart}
use Rattle.storage_relation.specs.Fills.{Fills}
use Rattle.storage_relation.specs.Served.{Holds, AllDiffer}
use Rattle.storage_relation.specs.Stored.{AreTold}
use Rattle.storage_relation.specs.Versions.{Version, IsSoundVersion, IsLaidOut, first_places, first_now}
use Rattle.storage_relation.proofs.Layouts.{first_stored}
use Rattle.storage_relation.proofs.Signatures.{are_distinct}

pub first_holds :
    (f : Version) (k : Keeper) → Keeps k → IsSoundVersion f → (t : List Template) → AllDiffer t →
    (constants : ℕ → Option ℕ) (fills : List Fills) (v : S.Services) (input m : List ℕ) → length m ≡ f.end →
    AreTold constants f.code_bytes f.heap_at m →
    Holds (first_now f k t constants fills v input m) × IsLaidOut f (first_now f k t constants fills v input m)
first_holds f k keeps sound t differ constants fills v input m long told = (
  record {
    keeps = keeps;
    heap = record { at = refl; capacity = refl };
    lives = record { falling = tt; numbered = λ n l e. absurd (cc e); extents = λ n l e. absurd (cc e) };
    stored = first_stored f k keeps sound (first_places f t constants fills) input m refl (refl, sound.behind) long told;
    distinct = are_distinct t differ;
  },
  record { layout_same = refl; heap = refl; low = omega arith; size = long },
)

pub first_stacks :
    (f : Version) (k : Keeper) (t : List Template) (constants : ℕ → Option ℕ) (fills : List Fills)
    (v : S.Services) (input m : List ℕ) (of : ℕ → Option Variable) → ((i : ℕ) → v.controlled i ≡ []) →
    ((i j : ℕ) (x y : Variable) → of i ≡ Some x → of j ≡ Some y → i ≢ j → same_variable x y ≡ false) →
    StacksStand (first_now f k t constants fills v input m) of
first_stacks f k t constants fills v input m of none other =
    record {
      each = λ i x e. record {
        offsets = ap offsets_in (none i);
        live = subst (AllLive (first_places f t constants fills) (first_state input)) (sym (none i)) tt;
      };
      other = other;
      once = λ i x e. subst (λ ks. AreOnce (offsets_in ks)) (sym (none i)) tt;
      apart = λ i j x y e g ne.
          subst (λ ks. AreApart (offsets_in ks) (offsets_in (v.controlled j))) (sym (none i)) tt;
    }
