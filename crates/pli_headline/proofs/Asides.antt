-- Variables that are put aside: those of a block that calls a procedure or raises AREA, and which what runs then can't name. They stand
-- for what they stood for, and hold what they held.
use Rattle.std.proofs.Common.{◌≡◌, ℕ, suc, ◌<◌, ◌≤◌, List, [], ◌∷◌, length, Option, Some, false, ap, ◌∙◌, arith}
use Rattle.std.specs.Prelude.{slice_get, ◌==◌}
use Rattle.pli_meaning.specs.Contents.{Generation}
use Rattle.pli_meaning.specs.StorageState.{Activation, Binding, Living, newest_height, ancestor, binding_in, generation_of, living_of, living_changed, generation_changed, without_owner}
use Rattle.pli_headline.specs.ProvedSoFar.{Spot, Kind, Types}
use Rattle.pli_headline.proofs.Changes.{changed_other}
use Rattle.pli_headline.proofs.Storages.{Serials, owner_in, owner_changed, stays_left, generation_left, below_high}

-- some variables of a block, with what they stood for and held where they were put aside
pub record Aside : Type 1 where
  pub among : ℕ → Type 0
  pub spot : ℕ → Spot
  pub serials : Serials
  pub binding : ℕ → Option Binding
  pub generation : ℕ → Option Generation

-- seen from the activation of their block, which is the newest of these, and apart from the variables that can be named
pub record IsAside (x : Aside) (o : Serials) (types : Types) (as' : List Activation) (living : List Living) (count : ℕ) : Type 0 where
  pub stands : (j : ℕ) → x.among j → binding_in (ancestor as' (newest_height as') (x.spot j).level) (x.spot j).index ≡ x.binding j
  pub lives : (j : ℕ) → x.among j → generation_of (living_of living (x.serials.of j)) ≡ x.generation j
  pub owned : (j : ℕ) → x.among j → owner_in (living_of living (x.serials.of j)) ≡ Some (x.serials.owner j)
  pub low : (j : ℕ) → x.among j → x.serials.owner j ≤ length as'
  pub older : (j : ℕ) → x.among j → x.serials.of j ≤ count
  pub apart : (i j : ℕ) {kind : Kind} → x.among i → slice_get types j ≡ Some kind → (o.of j == x.serials.of i) ≡ false

abbrev pub AreAside : List Aside → Serials → Types → List Activation → List Living → (count : ℕ) → Type 0
AreAside [] o types as' living count = Unit {0}
AreAside (x ∷ xs) o types as' living count = IsAside x o types as' living count × AreAside xs o types as' living count

-- of each activation, newest first; behind the last of them none have put any aside
abbrev pub AllAside : List (List Aside) → Serials → Types → List Activation → List Living → (count : ℕ) → Type 0
AllAside [] o types as' living count = Unit {0}
AllAside (xs ∷ rest) o types [] living count = ⊥
AllAside (xs ∷ rest) o types (a ∷ as') living count =
    AreAside xs o types (a ∷ as') living count × AllAside rest o types as' living count

pub record StandAside (xss : List (List Aside)) (o : Serials) (types : Types) (as' : List Activation) (living : List Living) (count : ℕ) : Type 0 where
  pub all : AllAside xss o types as' living count

-- the newest activation has put none aside
abbrev pub IsFresh : List (List Aside) → Type 0
IsFresh [] = Unit {0}
IsFresh ([] ∷ rest) = Unit {0}
IsFresh ((x ∷ xs) ∷ rest) = ⊥

abbrev pub first_aside : List (List Aside) → List Aside
first_aside [] = []
first_aside (xs ∷ rest) = xs

abbrev pub behind_aside : List (List Aside) → List (List Aside)
behind_aside [] = []
behind_aside (xs ∷ rest) = rest

-- ---- each of them

are_by : {o o' : Serials} {types types' : Types} {as' bs : List Activation} {living living' : List Living} {count count' : ℕ} → ((x : Aside) → IsAside x o types as' living count → IsAside x o' types' bs living' count') → (xs : List Aside) → AreAside xs o types as' living count → AreAside xs o' types' bs living' count'
are_by change [] all = tt
are_by change (x ∷ xs) all = (change x all.0, are_by change xs all.1)

all_by : {o o' : Serials} {types types' : Types} {living living' : List Living} {count count' : ℕ} (most : ℕ) → ((x : Aside) (as' : List Activation) → length as' ≤ most → IsAside x o types as' living count → IsAside x o' types' as' living' count') → (xss : List (List Aside)) (as' : List Activation) → length as' ≤ most → AllAside xss o types as' living count → AllAside xss o' types' as' living' count'
all_by most change [] as' few all = tt
all_by most change (xs ∷ rest) [] few all = absurd all
all_by most change (xs ∷ rest) (a ∷ as') few all =
    (are_by (λ x h. change x (a ∷ as') few h) xs all.0, all_by most change rest as' (omega (arith, few)) all.1)

pub asides_by : {o o' : Serials} {types types' : Types} {living living' : List Living} {count count' : ℕ} {xss : List (List Aside)} {as' : List Activation} → ((x : Aside) (bs : List Activation) → length bs ≤ length as' → IsAside x o types bs living count → IsAside x o' types' bs living' count') → StandAside xss o types as' living count → StandAside xss o' types' as' living' count'
asides_by {xss = xss} {as' = as'} change all = record { all = all_by (length as') change xss as' (omega arith) all.all }

-- where the newest activation is another from which the same is seen
pub asides_seen : {xss : List (List Aside)} {o : Serials} {types : Types} {living : List Living} {count : ℕ} (a a' : Activation) (as' : List Activation) → ((level i : ℕ) → binding_in (ancestor (a' ∷ as') a'.height level) i ≡ binding_in (ancestor (a ∷ as') a.height level) i) → StandAside xss o types (a ∷ as') living count → StandAside xss o types (a' ∷ as') living count
asides_seen {xss} {o} {types} {living} {count} a a' as' same all = record { all = by_first xss all.all }
  where
    by_first : (yss : List (List Aside)) → AllAside yss o types (a ∷ as') living count → AllAside yss o types (a' ∷ as') living count
    by_first [] h = tt
    by_first (xs ∷ rest) h = (
      are_by (λ x u. record {
        stands = λ j among. same (x.spot j).level (x.spot j).index ∙ u.stands j among;
        lives = λ j among. u.lives j among;
        owned = λ j among. u.owned j among;
        low = λ j among. u.low j among;
        older = λ j among. u.older j among;
        apart = λ i j among at. u.apart i j among at;
      }) xs h.0,
      h.1,
    )

-- where the newest has put none aside, it may be any
pub asides_other : {xss : List (List Aside)} {o : Serials} {types : Types} {living : List Living} {count : ℕ} (a a' : Activation) (as' : List Activation) → IsFresh xss → StandAside xss o types (a ∷ as') living count → StandAside xss o types (a' ∷ as') living count
asides_other {xss} {o} {types} {living} {count} a a' as' fresh all = record { all = by_first xss fresh all.all }
  where
    by_first : (yss : List (List Aside)) → IsFresh yss → AllAside yss o types (a ∷ as') living count → AllAside yss o types (a' ∷ as') living count
    by_first [] none h = tt
    by_first ([] ∷ rest) none h = h
    by_first ((x ∷ xs) ∷ rest) none h = absurd none

-- ---- what is done meanwhile

-- a variable that can be named is changed
pub asides_changed : {xss : List (List Aside)} {o : Serials} {types : Types} {as' : List Activation} {living : List Living} {count : ℕ} {kind : Kind} (j : ℕ) (change : Generation → Generation) → slice_get types j ≡ Some kind → StandAside xss o types as' living count → StandAside xss o types as' (living_changed (o.of j) (generation_changed change) living) count
asides_changed {o = o} {living = living} j change at all =
    asides_by (λ x bs few h. record {
      stands = λ i among. h.stands i among;
      lives = λ i among. changed_other living (o.of j) (x.serials.of i) change (h.apart i j among at) ∙ h.lives i among;
      owned = λ i among. owner_changed (o.of j) change living (x.serials.of i) ∙ h.owned i among;
      low = λ i among. h.low i among;
      older = λ i among. h.older i among;
      apart = λ i k among at'. h.apart i k among at';
    }) all

-- fewer can be named
pub asides_fewer : {xss : List (List Aside)} {o o' : Serials} {types types' : Types} {as' : List Activation} {living : List Living} {count : ℕ} → ((j : ℕ) (kind : Kind) → slice_get types' j ≡ Some kind → (slice_get types j ≡ Some kind) × (o'.of j ≡ o.of j)) → StandAside xss o types as' living count → StandAside xss o' types' as' living count
asides_fewer fewer all =
    asides_by (λ x bs few h. record {
      stands = λ i among. h.stands i among;
      lives = λ i among. h.lives i among;
      owned = λ i among. h.owned i among;
      low = λ i among. h.low i among;
      older = λ i among. h.older i among;
      apart = λ i j among at. ap (λ n. n == x.serials.of i) (fewer j _ at).1 ∙ h.apart i j among (fewer j _ at).0;
    }) all

-- the newest activation ends
pub asides_left : {xss : List (List Aside)} {o : Serials} {types : Types} {living : List Living} {count : ℕ} (height : ℕ) (a : Activation) (as' : List Activation) → height ≡ suc (length as') → StandAside xss o types (a ∷ as') living count → StandAside (behind_aside xss) o types as' (without_owner height living) count
asides_left {xss} {o} {types} {living} {count} height a as' high all = ended (record { all = by_first xss all.all })
  where
    by_first : (yss : List (List Aside)) → AllAside yss o types (a ∷ as') living count → AllAside (behind_aside yss) o types as' living count
    by_first [] h = tt
    by_first (xs ∷ rest) h = h.1

    ended : {yss : List (List Aside)} → StandAside yss o types as' living count → StandAside yss o types as' (without_owner height living) count
    ended h =
        asides_by (λ x bs few u.
        let other : (j : ℕ) → x.among j → (x.serials.owner j == height) ≡ false = λ j among.
        ap (λ n. x.serials.owner j == n) high ∙ below_high (x.serials.owner j) (length as') (let low = u.low j among in omega (arith, low, few)) in
        record {
          stands = λ j among. u.stands j among;
          lives = λ j among. generation_left height (x.serials.owner j) (x.serials.of j) living (u.owned j among) (other j among) ∙ u.lives j among;
          owned = λ j among. stays_left owner_in height (x.serials.owner j) (x.serials.of j) living (u.owned j among) (other j among) ∙ u.owned j among;
          low = λ j among. u.low j among;
          older = λ j among. u.older j among;
          apart = λ i j among at. u.apart i j among at;
        }) h

-- ---- some more are put aside, and back

pub asides_more : {xss : List (List Aside)} {o : Serials} {types : Types} {as' : List Activation} {living : List Living} {count : ℕ} (x : Aside) → 0 < length as' → IsAside x o types as' living count → StandAside xss o types as' living count → StandAside ((x ∷ first_aside xss) ∷ behind_aside xss) o types as' living count
asides_more {xss} {o} {types} {as'} {living} {count} x some h all = record { all = by_first xss as' some h all.all }
  where
    by_first : (yss : List (List Aside)) (bs : List Activation) → 0 < length bs → IsAside x o types bs living count → AllAside yss o types bs living count → AllAside ((x ∷ first_aside yss) ∷ behind_aside yss) o types bs living count
    by_first yss [] some' h' u = absurd (omega (arith, some'))
    by_first [] (b ∷ bs) some' h' u = ((h', tt), tt)
    by_first (ys ∷ rest) (b ∷ bs) some' h' u = ((h', u.0), u.1)

pub asides_back : {xss : List (List Aside)} {o : Serials} {types : Types} {as' : List Activation} {living : List Living} {count : ℕ} (x : Aside) → StandAside ((x ∷ first_aside xss) ∷ behind_aside xss) o types as' living count → IsAside x o types as' living count × StandAside xss o types as' living count
asides_back {xss} {o} {types} {as'} {living} {count} x all =
    let b = by_first xss as' all.all in (b.0, record { all = b.1 })
  where
    by_first : (yss : List (List Aside)) (bs : List Activation) → AllAside ((x ∷ first_aside yss) ∷ behind_aside yss) o types bs living count → IsAside x o types bs living count × AllAside yss o types bs living count
    by_first yss [] u = absurd u
    by_first [] (b ∷ bs) u = (u.0.0, tt)
    by_first (ys ∷ rest) (b ∷ bs) u = (u.0.0, (u.0.1, u.1))

-- all that could be named before can be named again
pub asides_again : {xss : List (List Aside)} {o o' : Serials} {types types' : Types} {as' bs : List Activation} {living living' : List Living} {count count' : ℕ} → StandAside xss o types as' living count → StandAside xss o' types' bs living' count' → StandAside xss o types bs living' count'
asides_again {xss} {o} {o'} {types} {types'} {as'} {bs} {living} {living'} {count} {count'} before now =
    record { all = all_again xss as' bs before.all now.all }
  where
    each_again : (xs : List Aside) (cs ds : List Activation) → AreAside xs o types cs living count → AreAside xs o' types' ds living' count' → AreAside xs o types ds living' count'
    each_again [] cs ds u w = tt
    each_again (x ∷ xs) cs ds u w = (
      let h = w.0 in
          record {
            stands = λ j among. h.stands j among;
            lives = λ j among. h.lives j among;
            owned = λ j among. h.owned j among;
            low = λ j among. h.low j among;
            older = λ j among. h.older j among;
            apart = λ i j among at. u.0.apart i j among at;
          },
      each_again xs cs ds u.1 w.1,
    )

    all_again : (yss : List (List Aside)) (cs ds : List Activation) → AllAside yss o types cs living count → AllAside yss o' types' ds living' count' → AllAside yss o types ds living' count'
    all_again [] cs ds u w = tt
    all_again (xs ∷ rest) [] ds u w = absurd u
    all_again (xs ∷ rest) (c ∷ cs) [] u w = absurd w
    all_again (xs ∷ rest) (c ∷ cs) (d ∷ ds) u w =
        (each_again xs (c ∷ cs) (d ∷ ds) u.0 w.0, all_again rest cs ds u.1 w.1)
