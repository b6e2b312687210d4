-- From one point to the next: acts, blocks that are entered and left, on-units, and what memory has then.
use Rattle.std.proofs.Common.{◌≡◌, ℕ, zero, suc, ◌+◌, ◌-◌, ◌<◌, ◌≤◌, List, [], ◌∷◌, ◌++◌, length}
use Rattle.std.proofs.Common.{Some, None, Bool, true, false, refl, sym, ap, ◌∙◌, subst, arith}
use Rattle.std.proofs.lemmas.List.{append_assoc}
use Rattle.std.specs.Prelude.{cond, ◌==◌, drop}
use Rattle.pli_language.specs.declared.condition.Condition.{Condition}
use Rattle.pli_typing.specs.TypedTree as Y
use Rattle.pli_meaning.specs.World.{World, counted, raising}
use Rattle.pli_meaning.specs.declared.outcome.End.TheVariants.{Running}
use Rattle.pli_meaning.specs.StorageState as M
use Rattle.pli_meaning.specs.StorageState.{State, Activation, Living, living_of, newest_ended, without_newest}
use Rattle.pli_meaning.specs.StorageState.{without_owner}
use Rattle.pli_meaning.specs.StorageState.{with_activations, with_world}
use Rattle.pli_meaning.specs.Raising.{Entry}
use Rattle.pli_serving.specs.ServiceState as S
use Rattle.area_keeper.specs.Keeper.{Keeper}
use Rattle.pli_coding.specs.Frames.{MemoryParts, fixed_size, temporary_bytes}
use Rattle.storage_relation.specs.Changes.{with_memory, ended}
use Rattle.storage_relation.specs.Served.{Now, Holds}
use Rattle.storage_relation.specs.Standing.{holder_of, bytes_of}
use Rattle.storage_relation.specs.Stored.{Places, AreLow, Lives, IsClear}
use Rattle.storage_relation.proofs.Changes.{ended_holds}
use Rattle.storage_relation.proofs.Living.{lives_ended}
use Rattle.storage_relation.proofs.Making.{same_held}
use Rattle.storage_relation.proofs.Placing.{without_less}
use Rattle.activation_relation.specs.Layers.{Layer, Point, Control, now, services_of}
use Rattle.activation_relation.specs.Chains.{UnitPlaces, AreActive, IsUnit}
use Rattle.activation_relation.specs.Changes.{with_line, with_act, pushed, popped, popped_from, unwound, established}
use Rattle.activation_relation.specs.Changes.{reverted, ended_times, StandsOver, newest_with, units_of}
use Rattle.activation_relation.specs.Changes.{awaiting}
use Rattle.activation_relation.specs.Frames.{FramesStand, AreLaid, IsLaid, frame_stores, stored, upper_top, lower_end}
use Rattle.activation_relation.specs.FrameLaws.{AreWords}
use Rattle.activation_relation.specs.Owned.{AreOwned, IsPlaceOf, AreWithin}
use Rattle.activation_relation.specs.PointLaws.{IsNext}
use Rattle.activation_relation.specs.Points.{Surroundings, Stands, AreOver}
use Rattle.activation_relation.proofs.ActiveChains.{pushed_active, unwound_active, established_active}
use Rattle.activation_relation.proofs.ActiveChains.{reverted_active}
use Rattle.activation_relation.proofs.Blocks.{same_length}
use Rattle.activation_relation.proofs.FrameWords.{laid_behind, frames_behind, frames_begun, made_within}
use Rattle.activation_relation.proofs.OwnPlaces.{owned_entered, owned_left, free_clear, clear_within, stores_hold}
use Rattle.activation_relation.proofs.Unwinding.{activations_ended, kept_behind, low_left}

-- ---- acts

with_act_stands :
    (w : Surroundings) (p : Point) (change : World → World) → Stands w p →
    (change p.state.world).end ≡ Running → (change p.state.world).acts ≤ w.acts → Stands w (with_act change p)
with_act_stands w p change h running few =
    record {
      active = h.active;
      laid = h.laid;
      low = h.low;
      lives = record { falling = h.lives.falling; numbered = h.lives.numbered; extents = h.lives.extents };
      owned = record { living = h.owned.living; heap = h.owned.heap; constants = h.owned.constants };
      over = h.over;
      running = running;
      allowed = few;
    }

line_stands : (w : Surroundings) (p : Point) (line : ℕ) → Stands w p → Stands w (with_line line p)
line_stands w p line h =
    record {
      active = h.active;
      laid = h.laid;
      low = h.low;
      lives = h.lives;
      owned = h.owned;
      over = h.over;
      running = h.running;
      allowed = h.allowed;
    }

pub awaited_stands :
    (w : Surroundings) (p : Point) (code resume : ℕ) → Stands w p → Stands w (awaiting code resume p)
awaited_stands w p code resume h =
    record {
      active = h.active;
      laid = h.laid;
      low = h.low;
      lives = h.lives;
      owned = h.owned;
      over = h.over;
      running = h.running;
      allowed = h.allowed;
    }

pub acted_stands :
    (w : Surroundings) (p : Point) (line : ℕ) → Stands w p → p.state.world.acts < w.acts →
    Stands w (with_act counted (with_line line p))
acted_stands w p line h few =
    with_act_stands w (with_line line p) counted (line_stands w p line h) h.running (omega (arith, few))

pub raised_stands :
    (w : Surroundings) (p : Point) (c : Condition) (code : ℕ) → Stands w p → p.state.world.acts < w.acts →
    Stands w (with_act (raising c code) p)
raised_stands w p c code h few = with_act_stands w p (raising c code) h h.running (omega (arith, few))

-- ---- what lives

more_low : (n m : ℕ) (ls : List Living) → n ≤ m → AreLow n ls → AreLow m ls
more_low n m [] h low = tt
more_low n m (l ∷ ls) h low = let a = low.0 in (omega (arith, a, h), more_low n m ls h low.1)

owner_low : (n : ℕ) (ls : List Living) (i : ℕ) (l : Living) → AreLow n ls → living_of ls i ≡ Some l → l.owner ≤ n
owner_low n [] i l low e = absurd (cc e)
owner_low n (x ∷ ls) i l low e = by (x.serial == i) e (λ f. owner_low n ls i l low.1 f)
  where
    by : (q : Bool) → cond q (Some x) (living_of ls i) ≡ Some l → (living_of ls i ≡ Some l → l.owner ≤ n) → l.owner ≤ n
    by true e rest = let same : x ≡ l = cc e in subst (λ (y : Living). y.owner ≤ n) same low.0
    by false e rest = rest e

-- the same of a state with other activations
lives_same :
    (π : Places) (s : State) (as' : List Activation) (world : World) → Lives π s →
    Lives π (record s { activations = as'; world = world })
lives_same π s as' world l = record { falling = l.falling; numbered = l.numbered; extents = l.extents }

owned_same :
    (k : Keeper) (π : Places) (s : State) (as' : List Activation) (world : World) (parts : MemoryParts)
    (φs : List Layer) → AreOwned k π s parts φs →
    AreOwned k π (record s { activations = as'; world = world }) parts φs
owned_same k π s as' world parts φs o = record { living = o.living; heap = o.heap; constants = o.constants }

-- what is left by a block that ends
pub record LeftOwned (k : Keeper) (π : Places) (s : State) (parts : MemoryParts) (φs : List Layer) : Type 0 where
  pub lives : Lives π s
  pub owned : AreOwned k π s parts φs

owned_ended :
    (k : Keeper) (π : Places) (s : State) (parts : MemoryParts) (a : Activation) (as' : List Activation)
    (φ : Layer) (φs : List Layer) → LeftOwned k π s parts (φ ∷ φs) → length as' ≡ length φs →
    AreLow (length as') (without_owner a.height s.living) →
    LeftOwned k π (record s { living = without_owner a.height s.living; activations = as' }) parts φs
owned_ended k π s parts a as' φ φs h many low =
    record {
      lives = lives_same π less as' s.world (lives_ended π s a.height h.lives);
      owned =
          owned_left k π (record s { living = without_owner a.height s.living; activations = as' }) parts φ φs
          (record {
            living = λ n l e.
                h.owned.living n l (without_less (s.serials + 1) a.height s.living n l h.lives.falling e);
            heap = h.owned.heap;
            constants = h.owned.constants;
          })
          (λ n l e. owner_low (length φs) (without_owner a.height s.living) n l
          (subst (λ i. AreLow i (without_owner a.height s.living)) many low) e);
    }
  where
    less : State
    less = record s { living = without_owner a.height s.living }

owned_behind :
    (units : UnitPlaces) (k : Keeper) (π : Places) (parts : MemoryParts) (n : ℕ) (s : State) (as' : List Activation)
    (φs : List Layer) → s.activations ≡ as' → AreActive units as' φs → AreLow (length as') s.living →
    LeftOwned k π s parts φs → LeftOwned k π (ended_times n s) parts (drop n φs)
owned_behind units k π parts zero s as' φs e active low h = h
owned_behind units k π parts (suc n) s [] (φ ∷ φs) e active low h = absurd active
owned_behind units k π parts (suc n) s (a ∷ as') [] e active low h = absurd active
owned_behind units k π parts (suc n) s [] [] e active low h =
    let same : newest_ended s ≡ s = ap (λ xs. without_newest xs s) e in
    subst (λ t. LeftOwned k π (ended_times n t) parts []) (sym same)
    (subst (λ ψs. LeftOwned k π (ended_times n s) parts ψs) (none n)
    (owned_behind units k π parts n s [] [] e active low h))
  where
    nothing : List Layer
    nothing = []

    none : (n : ℕ) → drop n nothing ≡ nothing
    none zero = refl
    none (suc n) = refl
owned_behind units k π parts (suc n) s (a ∷ as') (φ ∷ φs) e active low h =
    let after : State = record s { living = without_owner a.height s.living; activations = as' } in
    let same : newest_ended s ≡ after = ap (λ xs. without_newest xs s) e in
    let own : AreLow (length as') after.living =
    subst (λ i. AreLow (length as') (without_owner i s.living)) (sym active.0.height)
    (low_left (length as') s.living low) in
    subst (λ t. LeftOwned k π (ended_times n t) parts (drop n φs)) (sym same)
    (owned_behind units k π parts n after as' φs refl active.1 own
    (owned_ended k π s parts a as' φ φs h (sym (same_length units as' φs active.1)) own))

-- ---- the stacks of texts and formats

over_append : {A : Type 0} (kept below xs : List A) → StandsOver below xs → StandsOver below (kept ++ xs)
over_append kept below xs h = (kept ++ h.0, ap (λ ys. kept ++ ys) h.1 ∙ sym (append_assoc kept h.0 below))

over_then :
    {A : Type 0} (low middle high : List A) → StandsOver low middle → StandsOver middle high → StandsOver low high
over_then low middle high a b = (b.0 ++ a.0, b.1 ∙ ap (λ ys. b.0 ++ ys) a.1 ∙ sym (append_assoc b.0 a.0 low))

over_kept :
    (kept entries : List S.Entry) (edits : List S.EditPlace) (φs : List Layer) → AreOver entries edits φs →
    AreOver (kept ++ entries) edits φs
over_kept kept entries edits [] h = tt
over_kept kept entries edits (φ ∷ φs) h = ((over_append kept φ.entries entries h.0.0, h.0.1), h.1)

-- at any block
pub record OverAt (entries : List S.Entry) (edits : List S.EditPlace) (φ : Layer) (φs : List Layer) : Type 0 where
  pub entries_over : StandsOver φ.entries entries
  pub edits_over : StandsOver φ.edits edits
  pub rest : AreOver φ.entries φ.edits φs

over_at :
    (count : ℕ) (entries : List S.Entry) (edits : List S.EditPlace) (ψs : List Layer) (φ : Layer)
    (φs : List Layer) → AreOver entries edits ψs → drop count ψs ≡ φ ∷ φs → OverAt entries edits φ φs
over_at zero entries edits [] φ φs h e = absurd (cc e)
over_at (suc n) entries edits [] φ φs h e = absurd (cc e)
over_at zero entries edits (ψ ∷ ψs) φ φs h e =
    let there : AreOver entries edits (φ ∷ φs) = subst (λ ls. AreOver entries edits ls) e h in
    record { entries_over = there.0.0; edits_over = there.0.1; rest = there.1 }
over_at (suc n) entries edits (ψ ∷ ψs) φ φs h e =
    let rest = over_at n ψ.entries ψ.edits ψs φ φs h.1 e in
    record {
      entries_over = over_then φ.entries ψ.entries entries rest.entries_over h.0.0;
      edits_over = over_then φ.edits ψ.edits edits rest.edits_over h.0.1;
      rest = rest.rest;
    }

pub stacks_over :
    (w : Surroundings) (p : Point) (count : ℕ) (φ : Layer) (φs : List Layer) → Stands w p →
    drop count p.control.layers ≡ φ ∷ φs →
    StandsOver φ.entries p.control.entries × StandsOver φ.edits p.control.edits
stacks_over w p count φ φs h e =
    let r = over_at count p.control.entries p.control.edits p.control.layers φ φs h.over e in
    (r.entries_over, r.edits_over)

-- ---- blocks

pub entered_stands :
    (w : Surroundings) (p : Point) (head : Y.BlockHead) (entry : Entry) (φ : Layer) (line : ℕ) → Stands w p →
    IsNext w p head entry φ → Stands w (pushed head entry φ line p)
entered_stands w p head entry φ line h is =
    let as' = p.state.activations in
    let φs = p.control.layers in
    let same = same_length w.units as' φs h.active in
    let new = (pushed head entry φ line p).state in
    record {
      active = pushed_active w.units p head entry φ line h.active is.layer;
      laid = (is.laid, h.laid);
      low = more_low (length as') (suc (length as')) p.state.living (omega arith) h.low;
      lives = lives_same p.places p.state new.activations p.state.world h.lives;
      owned = owned_same p.keeper p.places p.state new.activations p.state.world w.parts (φ ∷ φs)
          (owned_entered p.keeper p.places p.state w.parts φ φs h.owned
          (λ n l e. let few = owner_low (length as') p.state.living n l h.low e in omega (arith, few, same)));
      over = ((is.entries, ([], sym is.edits)), is.over);
      running = h.running;
      allowed = h.allowed;
    }

-- so many blocks have ended, and the stacks are what they are
behind_stands :
    (w : Surroundings) (p : Point) (count : ℕ) (c : Control) → Stands w p →
    c.layers ≡ drop count p.control.layers → AreOver c.entries c.edits c.layers →
    Stands w (record p { state = ended_times count p.state; control = c })
behind_stands w p count c h layers over =
    let as' = p.state.activations in
    let φs = p.control.layers in
    let first = unwound_active w.units p count (any_layer φs) [] h.active h.low in
    let left = owned_behind w.units p.keeper p.places w.parts count p.state as' φs refl h.active h.low
    (record { lives = h.lives; owned = h.owned }) in
    let kept = kept_behind count p.state in
    let a = ap (λ (x : World). x.acts) kept.world in
    let few = h.allowed in
    record {
      active = subst (λ ls. AreActive w.units (ended_times count p.state).activations ls) (sym layers) first.0;
      laid = subst (AreLaid w.parts) (sym layers) (laid_behind w.parts count φs h.laid);
      low = first.1;
      lives = left.lives;
      owned =
          subst (λ ls. AreOwned p.keeper p.places (ended_times count p.state) w.parts ls) (sym layers) left.owned;
      over = over;
      running = ap (λ (x : World). x.end) kept.world ∙ h.running;
      allowed = omega (arith, a, few);
    }
  where
    no_layer : Layer
    no_layer =
        record {
          block = 0;
          level = 0;
          kind = S.BeginBlock;
          units = [];
          at = 0;
          words = 0;
          parameters = 0;
          back = 0;
          saved = 0;
          held = λ n. 0;
          waits = λ n. None;
          told = λ n. None;
          list = None;
          top = 0;
          lower = 0;
          entries = [];
          edits = [];
          line = 0;
          carried = λ label. None;
        }

    any_layer : List Layer → Layer
    any_layer ls = no_layer

pub left_stands :
    (w : Surroundings) (p : Point) (φ : Layer) (φs : List Layer) (kept : List S.Entry) → Stands w p →
    p.control.layers ≡ φ ∷ φs → Stands w (popped kept p)
left_stands w p φ φs kept h newest =
    subst (λ ls. Stands w (popped_from kept ls p)) (sym newest)
    (behind_stands w p 1 (popped_from kept (φ ∷ φs) p).control h (sym (ap (drop 1) newest))
    (over_kept kept φ.entries φ.edits φs there.1))
  where
    there : AreOver p.control.entries p.control.edits (φ ∷ φs)
    there = subst (λ ls. AreOver p.control.entries p.control.edits ls) newest h.over

pub unwound_stands :
    (w : Surroundings) (p : Point) (count : ℕ) (φ : Layer) (φs : List Layer) (kept : List S.Entry) → Stands w p →
    drop count p.control.layers ≡ φ ∷ φs → Stands w (unwound count kept φ p)
unwound_stands w p count φ φs kept h there =
    let r = over_at count p.control.entries p.control.edits p.control.layers φ φs h.over there in
    behind_stands w p count (unwound count kept φ p).control h refl
    (subst (λ ls. AreOver (kept ++ φ.entries) φ.edits ls) (sym there) (((kept, refl), ([], refl)), r.rest))

-- ---- on-units

changed_layers :
    (w : Surroundings) (p : Point) (as' : List Activation) (xs : List (Condition × S.OnUnit)) → Stands w p →
    length as' ≡ length p.state.activations →
    AreActive w.units as' (newest_with xs p.control.layers) →
    Stands w (record p {
      state = with_activations as' p.state;
      control = record p.control { layers = newest_with xs p.control.layers };
    })
changed_layers w p as' xs h many active =
    record {
      active = active;
      laid = laid p.control.layers h.laid;
      low = subst (λ n. AreLow n p.state.living) (sym many) h.low;
      lives = lives_same p.places p.state as' p.state.world h.lives;
      owned = owned_same p.keeper p.places p.state as' p.state.world w.parts (newest_with xs p.control.layers)
          (record {
            living = λ n l e. place p.control.layers l.owner (p.places.at n) (bytes_of p.keeper (holder_of l))
                (h.owned.living n l e);
            heap = h.owned.heap;
            constants = h.owned.constants;
          });
      over = over p.control.layers h.over;
      running = h.running;
      allowed = h.allowed;
    }
  where
    laid : (φs : List Layer) → AreLaid w.parts φs → AreLaid w.parts (newest_with xs φs)
    laid [] l = l
    laid (φ ∷ φs) l = (
      record {
        above = l.0.above;
        fixed = l.0.fixed;
        falls = l.0.falls;
        free = l.0.free;
        saved = l.0.saved;
        told = l.0.told;
      },
      l.1,
    )

    place :
        (φs : List Layer) (owner at count : ℕ) → IsPlaceOf w.parts φs owner at count →
        IsPlaceOf w.parts (newest_with xs φs) owner at count
    place [] owner at count q = q
    place (φ ∷ φs) owner at count q = q

    over :
        (φs : List Layer) → AreOver p.control.entries p.control.edits φs →
        AreOver p.control.entries p.control.edits (newest_with xs φs)
    over [] o = o
    over (φ ∷ φs) o = o

established_length :
    (c : Condition) (u : M.OnUnit) (as' : List Activation) → length (M.established c u as') ≡ length as'
established_length c u [] = refl
established_length c u (a ∷ as') = refl

reverted_length : (c : Condition) (as' : List Activation) → length (M.reverted c as') ≡ length as'
reverted_length c [] = refl
reverted_length c (a ∷ as') = refl

pub established_stands :
    (w : Surroundings) (p : Point) (c : Condition) (u : M.OnUnit) (x : S.OnUnit) → Stands w p → IsUnit w.units u x →
    Stands w (established c u x p)
established_stands w p c u x h is =
    changed_layers w p (M.established c u p.state.activations) ((c, x) ∷ M.without_unit c (units_of p.control.layers)) h
    (established_length c u p.state.activations) (established_active w.units p c u x h.active is)

pub reverted_stands : (w : Surroundings) (p : Point) (c : Condition) → Stands w p → Stands w (reverted c p)
reverted_stands w p c h =
    changed_layers w p (M.reverted c p.state.activations) (M.without_unit c (units_of p.control.layers)) h
    (reverted_length c p.state.activations) (reverted_active w.units p c h.active)

-- ---- memory

holds_with :
    (v : Now) → Holds v → (as' : List Activation) (services : S.Services) →
    Holds (record v { state = record v.state { activations = as' }; services = services })
holds_with v h as' services =
    record {
      keeps = h.keeps;
      heap = record { at = h.heap.at; capacity = h.heap.capacity };
      lives = lives_same v.places v.state as' v.state.world h.lives;
      stored = same_held v.keeper v.places v.state (record v.state { activations = as' }) v.memory refl refl h.stored;
      distinct = h.distinct;
    }

holds_newest :
    (v : Now) → Holds v → (services : S.Services) →
    Holds (record v { state = newest_ended v.state; services = services })
holds_newest v h services = by v.state.activations
  where
    by : (as' : List Activation) → Holds (record v { state = without_newest as' v.state; services = services })
    by [] = holds_with v h v.state.activations services
    by (a ∷ as') = holds_with (ended a.height v) (ended_holds v h a.height) as' services

holds_ended :
    (n : ℕ) (v : Now) → Holds v → (services : S.Services) →
    Holds (record v { state = ended_times n v.state; services = services })
holds_ended zero v h services = holds_with v h v.state.activations services
holds_ended (suc n) v h services =
    holds_ended n (record v { state = newest_ended v.state; services = services }) (holds_newest v h services) services

pub entered_memory :
    (w : Surroundings) (p : Point) (base : ℕ) (m : List ℕ) (head : Y.BlockHead) (entry : Entry) (φ : Layer)
    (line : ℕ) → Stands w p × Holds (now p m)
    × FramesStand w.parts base m p.state.activations p.control.layers →
    IsLaid w.parts φ p.control.layers × AreWords base φ × (φ.lower ≤ length m)
    × ((n : ℕ) → φ.waits n ≡ None) × (φ.list ≡ None) × ((n : ℕ) → φ.told n ≡ None) →
    Holds (now (pushed head entry φ line p)
    (stored (frame_stores w.parts base entry.parent p.state.activations φ p.control.layers) m))
    × FramesStand w.parts base (stored (frame_stores w.parts base entry.parent p.state.activations φ
    p.control.layers) m) (pushed head entry φ line p).state.activations (pushed head entry φ line p).control.layers
entered_memory w p base m head entry φ line h is = (
  holds_with (with_memory new (now p m)) (stores_hold (now p m) φ.at size words h.1 clear room within)
      q.state.activations (services_of q),
  frames_begun w.parts base m (activation q.state.activations) as' φ φs h.2 (is.0, h.0.laid) is.1 is.2
      is.4 is.5 (λ n v few e. let no : None ≡ Some v = sym (is.3 n) ∙ e in absurd (cc no)),
)
  where
    as' : List Activation
    as' = p.state.activations

    φs : List Layer
    φs = p.control.layers

    q : Point
    q = pushed head entry φ line p

    activation : List Activation → Activation
    activation xs =
        record {
          height = length as' + 1;
          level = head.level;
          parent = entry.parent;
          oncode = entry.oncode;
          bindings = [];
          units = [];
        }

    size : ℕ
    size = fixed_size φ.level φ.parameters

    words : List (ℕ × ℕ)
    words = frame_stores w.parts base entry.parent as' φ φs

    new : List ℕ
    new = stored words m

    above : upper_top w.parts φs + temporary_bytes φ.words ≡ φ.at
    above = is.0.above

    inside : φ.at + size ≤ φ.lower
    inside = let f = is.0.fixed in let g = is.0.free in omega (arith, f, g)

    room : φ.at + size ≤ length m
    room = let l = is.2 in omega (arith, inside, l)

    falls : φ.lower ≤ lower_end w.parts φs
    falls = is.0.falls

    clear : IsClear p.keeper p.places p.state φ.at size
    clear =
        clear_within p.keeper p.places p.state (upper_top w.parts φs) (lower_end w.parts φs - upper_top w.parts φs) φ.at
        size (free_clear p.keeper p.places p.state w.parts φs h.0.owned h.0.laid) (omega (arith, above))
        (omega (arith, inside, falls, above))

    within : AreWithin φ.at size words
    within = made_within w.parts base entry.parent as' φ φs is.0

pub left_memory :
    (w : Surroundings) (p : Point) (base : ℕ) (m : List ℕ) (φ : Layer) (φs : List Layer) (kept : List S.Entry) →
    Stands w p × Holds (now p m) × FramesStand w.parts base m p.state.activations p.control.layers →
    p.control.layers ≡ φ ∷ φs →
    Holds (now (popped kept p) m)
    × FramesStand w.parts base m (popped kept p).state.activations (popped kept p).control.layers
left_memory w p base m φ φs kept h newest =
    subst (λ ls. Holds (now (popped_from kept ls p) m)
    × FramesStand w.parts base m (popped_from kept ls p).state.activations (popped_from kept ls p).control.layers)
    (sym newest) (
      holds_newest (now p m) h.1 (services_of (popped_from kept (φ ∷ φs) p)),
      subst (λ xs. FramesStand w.parts base m xs φs) (sym (activations_ended 1 p.state))
          (subst (λ ls. FramesStand w.parts base m (drop 1 p.state.activations) (drop 1 ls)) newest
          (frames_behind w.parts base 1 m p.state.activations p.control.layers h.2)),
    )

pub unwound_memory :
    (w : Surroundings) (p : Point) (base : ℕ) (m : List ℕ) (count : ℕ) (φ : Layer) (kept : List S.Entry) →
    Holds (now p m) × FramesStand w.parts base m p.state.activations p.control.layers →
    Holds (now (unwound count kept φ p) m)
    × FramesStand w.parts base m (unwound count kept φ p).state.activations
    (unwound count kept φ p).control.layers
unwound_memory w p base m count φ kept h = (
  holds_ended count (now p m) h.0 (services_of (unwound count kept φ p)),
  subst (λ xs. FramesStand w.parts base m xs (drop count p.control.layers)) (sym (activations_ended count p.state))
      (frames_behind w.parts base count m p.state.activations p.control.layers h.1),
)
