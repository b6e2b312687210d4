-- A point at which a procedure has been entered, and one argument of its list is bound: where all of it lies, and all
-- that holds once its copy has been made.
use Rattle.std.proofs.Common.{◌≡◌, ℕ, zero, suc, ◌+◌, ◌-◌, ◌*◌, ◌%◌, ◌^◌, ◌<◌, ◌≤◌, List, [], ◌∷◌, length, map, true}
use Rattle.std.proofs.Common.{false, Option, Some, inl, inr, refl, sym, ap, ◌∙◌, subst, arith}
use Rattle.std.proofs.lemmas.Bool.{le-leb}
use Rattle.std.proofs.lemmas.Bool.Decides.{nat_tests}
use Rattle.std.specs.Prelude.{Bool, cond, pos, ◌&&◌, ◌==◌, nat_le, nat_lt}
use Rattle.rv_meaning.specs.declared.instr.Instr.{Instr}
use Rattle.rv_meaning.specs.Machine.{memory_size}
use Rattle.rv_meaning.specs.Words.{word}
use Rattle.area_keeper.specs.KeptAreas.{with_part}
use Rattle.pli_typing.specs.Signatures.{Fixed, data_size}
use Rattle.pli_meaning.specs.BasicValues.{VariableName}
use Rattle.pli_meaning.specs.Contents.{footprint_of, fresh}
use Rattle.pli_meaning.specs.Making.{living_at, plain}
use Rattle.pli_meaning.specs.Numbers.{is_of_precision}
use Rattle.pli_meaning.specs.StorageState.{Activation, automatic_in_use, most_automatic, newest_height}
use Rattle.pli_meaning.specs.declared.outcome.End.TheVariants as E
use Rattle.pli_meaning.specs.declared.outcome.Limit.TheVariants as L
use Rattle.pli_serving.specs.ActsAndEnds.{run_ended}
use Rattle.pli_serving.specs.Answers.{Answer, Done}
use Rattle.pli_serving.specs.Arguments.{shape_of_number}
use Rattle.pli_serving.specs.Bytes as B
use Rattle.pli_serving.specs.InitialValues.{initial_values}
use Rattle.pli_serving.specs.Making as G
use Rattle.pli_serving.specs.Outcomes.{bad_unless, or_bad}
use Rattle.pli_serving.specs.ServiceState as S
use Rattle.pli_serving.specs.Templates.{shape_at}
use Rattle.pli_serving.specs.Values.{generation_bytes}
use Rattle.storage_relation.specs.Changes.{IsMaking, Making, made}
use Rattle.storage_relation.specs.Served.{Holds, served_living}
use Rattle.storage_relation.specs.Standing.{IsValued}
use Rattle.storage_relation.proofs.Changes.{limit_same, made_holds, made_served}
use Rattle.storage_relation.proofs.Making.{begins_alone, same_held}
use Rattle.activation_relation.specs.Chains.{AreActive}
use Rattle.activation_relation.specs.FrameLaws.{with_waits}
use Rattle.activation_relation.specs.Frames.{AreLaid, frame_bytes, frame_start}
use Rattle.activation_relation.specs.Layers.{Layer, Point, activation_of, now, services_of}
use Rattle.activation_relation.specs.Owned.{AreOwned}
use Rattle.activation_relation.specs.Points.{AreOver, Stands, Surroundings}
use Rattle.activation_relation.specs.Variables.{FitsBlock}
use Rattle.activation_relation.proofs.Blocks.{newest_of, same_length}
use Rattle.activation_relation.proofs.BlockVariables.{variable_stands}
use Rattle.activation_relation.proofs.FrameWords.{words_covered}
use Rattle.activation_relation.proofs.OwnPlaces.{clear_within, frame_below_clear, free_clear}
use Rattle.run_steps.specs.Engine.{call_at}
use Rattle.run_steps.specs.Unlimited as U
use Rattle.block_runs.specs.Machines.{AreEven, IsImage}
use Rattle.block_runs.proofs.Places.{IsFrame, bounds, even_frame}
use Rattle.argument_runs.specs.Copies.{Copy, copy_generation, copy_made_of}
use Rattle.argument_runs.specs.Lists.{layered}
use Rattle.argument_runs.specs.Parameters.{most_parameters}
use Rattle.argument_runs.proofs.CopyPoints.{owner_given, zero_bytes, zero_generation}
use Rattle.argument_runs.proofs.GivenLists.{active_with, laid_with}
use Rattle.list_calls.specs.Lists.{copied_at, name_told}

-- ---- around it

-- where the list stands, the argument's place in it, and its last word
pub record Part : Type 0 where
  pub list : ℕ
  pub place : ℕ
  pub last : ℕ

abbrev pub part_at : Part → ℕ
part_at t = t.list + 24 * t.place

pub record Around (w : Surroundings) (code : List Instr) (p : Point) (ψ φ : Layer) (φs : List Layer) (t : Part) :
    Type 0 where
  pub stands : Stands w p
  pub image : IsImage w code p
  pub newest : p.control.layers ≡ ψ ∷ φ ∷ φs
  pub list : ψ.list ≡ Some t.list
  pub under : t.list + 24 * t.place + 4 * (t.last + 6) ≡ φ.at
  pub words : t.last + 6 + 6 * t.place ≤ φ.words
  pub near : t.place < most_parameters

-- a value waits in the part, to be copied; there is room for that, and its serial number has 8 bytes
pub record IsCopy (p : Point) (ψ φ : Layer) (w : Surroundings) (t : Part) (x : Copy) : Type 0 where
  pub value : φ.waits (t.last + 5) ≡ Some (word x.value)
  pub mark : φ.waits t.last ≡ Some 1
  pub wide : is_of_precision 31 x.value ≡ true
  pub fits : ψ.top + 16 ≤ ψ.lower
  pub even : ψ.lower % 16 ≡ 0
  pub low : p.places.low ≤ w.parts.stack_start
  pub shape : shape_at p.places.signatures x.number ≡ Some (plain (Fixed 31))
  pub number : x.number < 2 ^ 31
  pub serial : p.state.serials + 1 < 2 ^ 64

pub laid_here :
    {w : Surroundings} {code : List Instr} {p : Point} {ψ φ : Layer} {φs : List Layer} {t : Part} →
    Around w code p ψ φ φs t → AreLaid w.parts (ψ ∷ φ ∷ φs)
laid_here {w} k = subst (AreLaid w.parts) k.newest k.stands.laid

pub owned_here :
    {w : Surroundings} {code : List Instr} {p : Point} {ψ φ : Layer} {φs : List Layer} {t : Part} →
    Around w code p ψ φ φs t → AreOwned p.keeper p.places p.state w.parts (ψ ∷ φ ∷ φs)
owned_here {w} {p = p} k = subst (AreOwned p.keeper p.places p.state w.parts) k.newest k.stands.owned

-- where all of it lies
pub record Bounded (w : Surroundings) (ψ φ : Layer) (t : Part) : Type 0 where
  pub list : IsFrame t.list
  pub part : IsFrame (part_at t)
  pub frame : IsFrame ψ.at
  pub words : frame_start φ ≤ t.list
  pub above : φ.at ≤ ψ.top
  pub start : w.parts.stack_start ≤ φ.at
  pub top : ψ.top ≤ ψ.lower
  pub room : ψ.lower + 2 ^ 12 ≤ 15 * 2 ^ 20
  pub below : φ.at + 48 ≤ ψ.at

pub bounded :
    {w : Surroundings} {code : List Instr} {p : Point} {ψ φ : Layer} {φs : List Layer} {t : Part} →
    Around w code p ψ φ φs t → Bounded w ψ φ t
bounded {w} {ψ = ψ} {φ = φ} {φs = φs} {t = t} k =
    let laid = laid_here k in
    let even = subst (AreEven w.parts) k.newest k.image.even in
    let o = bounds w.parts (ψ ∷ φ ∷ φs) laid in
    let o' = bounds w.parts (φ ∷ φs) laid.1 in
    let o'' = bounds w.parts φs laid.1.1 in
    let even' = even_frame w.parts (φ ∷ φs) laid.1 even.1 in
    let even'' = even_frame w.parts (ψ ∷ φ ∷ φs) laid even in
    let words = k.words in
    let under = k.under in
    let covered = words_covered φ.words in
    let above = laid.1.0.above in
    let above' = laid.0.above in
    let fixed = laid.0.fixed in
    let fixed' = laid.1.0.fixed in
    let first = k.image.parts.high in
    let last = k.image.parts.inside in
    let low = o'.low in
    let low' = o.low in
    let between' = o'.above in
    let high = o.high in
    let free = o.free in
    let start = o''.low in
    let between = o''.above in
    record {
      list = record {
        whole = omega (arith, even', words, covered, above, start, under);
        high = omega (arith, words, covered, above, start, between, first, under);
        room = omega (arith, above', fixed, between', free, high, last, under);
      };
      part = record {
        whole = omega (arith, even', words, covered, above, start, under);
        high = omega (arith, words, covered, above, start, between, first, under);
        room = omega (arith, above', fixed, between', free, high, last, under);
      };
      frame = record {
        whole = omega (arith, even'');
        high = omega (arith, low', first);
        room = omega (arith, fixed, free, high, last);
      };
      words = omega (arith, words, covered, above, under);
      above = omega (arith, above', fixed, between');
      start = low;
      top = free;
      room = omega (arith, high, last);
      below = omega (arith, above', between');
    }

-- ---- the point

-- with anything told of the caller's words
pub below_stands :
    {w : Surroundings} {code : List Instr} {p : Point} {ψ φ : Layer} {φs : List Layer} {t : Part}
    (waits : ℕ → Option ℕ) → Around w code p ψ φ φs t → Stands w (layered (ψ ∷ with_waits waits φ ∷ φs) p)
below_stands {w} {p = p} {ψ = ψ} {φ = φ} {φs = φs} waits k =
    let laid = laid_here k in
    let owned = owned_here k in
    record {
      active = active_by p.state.activations (subst (AreActive w.units p.state.activations) k.newest k.stands.active);
      laid = (
        record {
          above = laid.0.above;
          fixed = laid.0.fixed;
          falls = laid.0.falls;
          free = laid.0.free;
          saved = laid.0.saved;
          told = laid.0.told;
        },
        laid_with w.parts φ φs waits laid.1,
      );
      low = k.stands.low;
      lives = k.stands.lives;
      owned = record { living = owned.living; heap = owned.heap; constants = owned.constants };
      over = subst (AreOver p.control.entries p.control.edits) k.newest k.stands.over;
      running = k.stands.running;
      allowed = k.stands.allowed;
    }
  where
    active_by :
        (as' : List Activation) → AreActive w.units as' (ψ ∷ φ ∷ φs) →
        AreActive w.units as' (ψ ∷ with_waits waits φ ∷ φs)
    active_by [] h = absurd h
    active_by (a ∷ as') h = (h.0, active_with w.units as' φ φs waits h.1)

fits_block :
    {w : Surroundings} {code : List Instr} {p : Point} {ψ φ : Layer} {φs : List Layer} {t : Part} {x : Copy}
    (waits : ℕ → Option ℕ) → Around w code p ψ φ φs t → IsCopy p ψ φ w t x →
    FitsBlock w (layered (ψ ∷ with_waits waits φ ∷ φs) p) (copy_made_of ψ x) ψ (with_waits waits φ ∷ φs)
fits_block waits k is =
    let fits = is.fits in
    let falls = (laid_here k).0.falls in
    record {
      newest = refl;
      upper = omega arith;
      falls = omega arith;
      free = omega (arith, fits);
      told = λ n v e. inl e;
      own = inr (omega arith, omega (arith, fits, falls));
      extent = refl;
      shape = is.shape;
    }

pub copied_stands :
    {w : Surroundings} {code : List Instr} {p : Point} {ψ φ : Layer} {φs : List Layer} {t : Part} {x : Copy} →
    Around w code p ψ φ φs t → IsCopy p ψ φ w t x →
    Stands w (copied_at t.last ψ φ φs x p) × IsImage w code (copied_at t.last ψ φ φs x p)
copied_stands {w} {p = p} {ψ = ψ} {φ = φ} {φs = φs} {t = t} {x = x} k is =
    let waits = name_told t.last (p.state.serials + 1) x.number 1 φ.waits in (
      variable_stands w (layered (ψ ∷ with_waits waits φ ∷ φs) p) (copy_made_of ψ x) ψ (with_waits waits φ ∷ φs)
          (below_stands waits k) (fits_block waits k is),
      record {
        keeper = k.image.keeper;
        layout = k.image.layout;
        parts = k.image.parts;
        even = subst (AreEven w.parts) k.newest k.image.even;
      },
    )

-- ---- memory

abbrev pub copy_making : Point → Layer → Part → Copy → Making
copy_making p ψ t x =
    record {
      living = living_at (p.state.serials + 1) (newest_height p.state.activations) (copy_generation x);
      place = ψ.lower - 16;
      number = x.number;
      data_bytes = generation_bytes (copy_generation x);
      name = part_at t;
      named = B.name_bytes (VariableName (p.state.serials + 1));
    }

-- the data hold a number of 4 bytes
abbrev pub copy_memory : Point → Layer → Part → (data' : List ℕ) → List ℕ → List ℕ
copy_memory p ψ t data' m =
    with_part (B.name_bytes (VariableName (p.state.serials + 1))) (part_at t) (with_part data' (ψ.lower - 16) m)

copy_valued : (x : Copy) → is_of_precision 31 x.value ≡ true → IsValued (copy_generation x)
copy_valued x wide zero is less within = (omega arith, wide)
copy_valued x wide (suc leaf) is less within = absurd (omega (arith, less))

is_making :
    {w : Surroundings} {code : List Instr} {p : Point} {ψ φ : Layer} {φs : List Layer} {t : Part} {x : Copy}
    (m : List ℕ) → Around w code p ψ φ φs t → IsCopy p ψ φ w t x → length m ≡ memory_size →
    IsMaking (now p m) (copy_making p ψ t x)
is_making {w} {p = p} {ψ = ψ} {φ = φ} {φs = φs} {t = t} {x = x} m k is bytes =
    let o = bounded k in
    let part = o.part.room in
    let words = o.words in
    let above = o.above in
    let start = o.start in
    let room = o.room in
    let top = o.top in
    let under = k.under in
    let fits = is.fits in
    let even = is.even in
    let low = is.low in
    let g = copy_generation x in
    let laid = laid_here k in
    let fixed = laid.0.fixed in
    let spelled = begins_alone p.keeper p.places.signatures (p.state.serials + 1) (newest_height p.state.activations) g
    refl (tt, tt) (copy_valued x is.wide) in
    let clear = free_clear p.keeper p.places p.state w.parts (ψ ∷ φ ∷ φs) (owned_here k) laid in
    record {
      serial = refl;
      extent = refl;
      shape = is.shape;
      long = spelled.0;
      stands = spelled.1;
      behind = omega (arith, low, start, above, fits);
      aligned = omega (arith, even, fits);
      room = omega (arith, room, bytes, fits);
      clear = clear_within p.keeper p.places p.state
          ψ.top (ψ.lower - ψ.top) (ψ.lower - 16) 4 clear (omega (arith, fits))
          (omega (arith, fits));
      name_room = omega (arith, part, bytes);
      name_clear = clear_within p.keeper p.places p.state (frame_start φ) (frame_bytes φ) (part_at t) 16
          (frame_below_clear p.keeper p.places p.state w.parts ψ φ φs (owned_here k) laid) (omega (arith, words))
          (omega (arith, words, under));
      beside = inr (omega (arith, fits, above, under));
    }

pub copied_holding :
    {w : Surroundings} {code : List Instr} {p : Point} {ψ φ : Layer} {φs : List Layer} {t : Part} {x : Copy}
    (m : List ℕ) → Around w code p ψ φ φs t → IsCopy p ψ φ w t x → length m ≡ memory_size → Holds (now p m) →
    Holds (now (copied_at t.last ψ φ φs x p) (copy_memory p ψ t (generation_bytes (copy_generation x)) m))
copied_holding {w} {p = p} {ψ = ψ} {φ = φ} {φs = φs} {t = t} {x = x} m k is bytes h =
    let q = copied_at t.last ψ φ φs x p in
    let o = made_holds (now p m) h (copy_making p ψ t x) (is_making m k is bytes) in
    let s = (made (copy_making p ψ t x) (now p m)).state in
    record {
      keeps = o.keeps;
      heap = record { at = o.heap.at; capacity = o.heap.capacity };
      lives = record { falling = o.lives.falling; numbered = o.lives.numbered; extents = o.lives.extents };
      stored = same_held p.keeper q.places s q.state
          (copy_memory p ψ t (generation_bytes (copy_generation x)) m) refl refl o.stored;
      distinct = o.distinct;
    }

-- ---- what service 7 answers

owner_is :
    {w : Surroundings} {code : List Instr} {p : Point} {ψ φ : Layer} {φs : List Layer} {t : Part} →
    Around w code p ψ φ φs t → S.height (services_of p) ≡ newest_height p.state.activations
owner_is {w} {p = p} {ψ = ψ} {φ = φ} {φs = φs} k =
    let rest = φ ∷ φs in
    let n = newest_of w.units p ψ rest k.stands.active k.newest in
    let many = same_length w.units n.others rest n.rest in
    let height = n.is.height in
    let e : S.height (services_of p) ≡ suc (length rest) =
    ap (λ ls. length (map activation_of ls)) k.newest ∙ ap (λ i. suc i) (mapped rest) in
    let f : newest_height p.state.activations ≡ suc (length n.others) = ap newest_height n.first ∙ height in
    omega (arith, e, f, many)
  where
    mapped : (ls : List Layer) → length (map activation_of ls) ≡ length ls
    mapped [] = refl
    mapped (l ∷ ls) = ap (λ i. suc i) (mapped ls)

abbrev living_made : Point → Layer → Copy → (owner : ℕ) → S.Living
living_made p ψ x owner =
    record { serial = p.state.serials + 1; owner = owner; signature = x.number; at = ψ.lower - 16 }

copied_services :
    {w : Surroundings} {code : List Instr} {p : Point} {ψ φ : Layer} {φs : List Layer} {t : Part} {x : Copy}
    (m : List ℕ) → Around w code p ψ φ φs t → IsCopy p ψ φ w t x → length m ≡ memory_size → Holds (now p m) →
    G.with_living (living_made p ψ x (S.height (services_of p))) (services_of p)
    ≡ services_of (copied_at t.last ψ φ φs x p)
copied_services {w} {p = p} {ψ = ψ} {φ = φ} {φs = φs} {t = t} {x = x} m k is bytes h =
    let v = services_of p in
    let q = copied_at t.last ψ φ φs x p in
    let served' = made_served (now p m) h (copy_making p ψ t x) (is_making m k is bytes) in
    let layers : map activation_of q.control.layers ≡ map activation_of p.control.layers =
    sym (ap (λ ls. map activation_of ls) k.newest) in
    ap (λ o. G.with_living (living_made p ψ x o) v) (owner_is k)
    ∙ ap (λ ls. record v { serials = p.state.serials + 1; living = ls }) (sym served')
    ∙ ap (λ as'. record v {
      serials = p.state.serials + 1;
      living = map (served_living q.places) q.state.living;
      activations = as';
    }) (sym layers)

limit_kept :
    (q : Bool) (used : ℕ) → nat_le used most_automatic ≡ true → cond q false (nat_lt most_automatic used) ≡ false
limit_kept true used e = refl
limit_kept false used e = grind (arith, e, nat_tests)

pub copied_answer :
    {w : Surroundings} {code : List Instr} {p : Point} {ψ φ : Layer} {φs : List Layer} {t : Part} {x : Copy}
    (m m' : List ℕ) → Around w code p ψ φ φs t → IsCopy p ψ φ w t x →
    nat_le (automatic_in_use p.state.living + footprint_of (copy_generation x)) most_automatic ≡ true →
    length m' ≡ memory_size → Holds (now p m') → 4 * length code ≤ 2 ^ 22 →
    U.make_served (call_at code (services_of p) m) (part_at t) x.number 0 (ψ.lower - 16) 2
    ≡ Done (services_of (copied_at t.last ψ φ φs x p)) (copy_memory p ψ t zero_bytes m) (part_at t) x.number
copied_answer {w} {code} {p} {ψ} {φ} {φs} {t} {x} m m' k is few bytes h small' =
    let v = services_of p in
    let c = call_at code v m in
    let g = zero_generation in
    let shape = plain (Fixed 31) in
    let name = part_at t in
    let place = ψ.lower - 16 in
    let owner = S.height v in
    let o = bounded k in
    let low = o.part.high in
    let last = o.part.room in
    let above = o.above in
    let room = o.room in
    let under = k.under in
    let fits = is.fits in
    let limit : G.passes_limit v owner g ≡ false =
    limit_same (now p m') h owner g ∙ limit_kept (owner == 0) _ few in
    let t1 : nat_le (4 * length code) place ≡ true = le-leb _ _ (omega (arith, low, above, fits, small', under)) in
    let t2 : nat_le (place + data_size shape.signature) memory_size ≡ true =
    le-leb _ _ (omega (arith, fits, room)) in
    let t3 : nat_le (4 * length code) name ≡ true = le-leb _ _ (omega (arith, low, small')) in
    let t4 : nat_le (name + 16) memory_size ≡ true = le-leb _ _ (omega (arith, last)) in
    let done : Answer = Done (G.with_living (living_made p ψ x owner) v) (copy_memory p ψ t zero_bytes m) name
    x.number in
    ap (λ q. or_bad q (λ own. or_bad (shape_of_number c x.number) (λ s. or_bad (initial_values c s.signature.leaves 0)
    (λ values. U.limited c name x.number place own (fresh s (pos 0) values))))) (owner_given p ψ _ k.newest)
    ∙ ap (λ q. or_bad q (λ s. or_bad (initial_values c s.signature.leaves 0)
    (λ values. U.limited c name x.number place owner (fresh s (pos 0) values)))) is.shape
    ∙ ap (λ q. cond q (run_ended (E.Limit L.Automatic) v)
    (U.variable_made c name x.number place owner (p.state.serials + 1) g)) limit
    ∙ ap (λ q. bad_unless ((q && nat_le (place + data_size shape.signature) memory_size)
    && (nat_le (4 * length code) name && nat_le (name + 16) memory_size)) done) t1
    ∙ ap (λ q. bad_unless (q && (nat_le (4 * length code) name && nat_le (name + 16) memory_size)) done) t2
    ∙ ap (λ q. bad_unless (q && nat_le (name + 16) memory_size) done) t3
    ∙ ap (λ q. bad_unless q done) t4
    ∙ ap (λ u. Done u (copy_memory p ψ t zero_bytes m) name x.number) (copied_services m' k is bytes h)
