-- The name of what such a parameter stands for is found in the list, and passed on.
use Rattle.std.proofs.Common.{◌≡◌, inl, inr, ℕ, ◌+◌, List, [], ◌∷◌, Option}
use Rattle.std.proofs.Common.{refl, sym, ap, ◌∙◌, subst, arith}
use Rattle.std.specs.Prelude.{◌==◌}
use Rattle.pli_typing.specs.TypedTree as Y
use Rattle.pli_meaning.specs.BasicValues.{VariableName}
use Rattle.pli_meaning.specs.Control.{Normal, flow_on, give, ◌>>=◌}
use Rattle.pli_meaning.specs.Evaluating as V
use Rattle.pli_meaning.specs.Raising.{Around, PassedName}
use Rattle.pli_meaning.specs.StorageState.{State, ancestor, binding_in, living_of, newest_height}
use Rattle.pli_coding.specs.Assembly.{size_of}
use Rattle.pli_coding.specs.Registers.{a1, u1}
use Rattle.activation_relation.specs.FrameLaws.{with_waits}
use Rattle.activation_relation.specs.Layers.{Layer, Point, services_of}
use Rattle.activation_relation.specs.Remaining.{LivesOn}
use Rattle.activation_relation.proofs.Remaining.{shapes_remain}
use Rattle.run_steps.specs.Items.{Linked}
use Rattle.run_steps.specs.Reach.{Reach}
use Rattle.block_runs.specs.Machines.{IsIn}
use Rattle.block_runs.proofs.PointGrounds.{known_in}
use Rattle.program_runs.specs.Statements.{Block, IsAmong, IsBegun}
use Rattle.expression_runs.specs.Values.{Setting}
use Rattle.expression_runs.specs.Variables.{Spot}
use Rattle.argument_runs.specs.Lists.{layered, with_list}
use Rattle.argument_runs.specs.Parameters.{parameter, parameter_of, parameter_shape}
use Rattle.argument_runs.proofs.ParameterCode as P
use Rattle.argument_runs.proofs.Parameters.{generation_is}
use Rattle.word_runs.specs.Words.{telling}
use Rattle.word_runs.proofs.Words.{begun_telling, frame_told}
use Rattle.list_calls.specs.Arguments.{Passes}
use Rattle.list_calls.specs.Lists.{Told, name_told}
use Rattle.list_calls.proofs.ListGiving.{told_again, told_itself}
use Rattle.list_calls.proofs.NamePassing.{Finds, Signs, answered_regs, name_passed, passing_code}
use Rattle.parameter_runs.specs.Around.{Entry, HasListed, IsOver, IsParameterAround}
use Rattle.parameter_runs.proofs.AroundCode.{list_by, passed_coded, sign_by}
use Rattle.parameter_runs.proofs.Finding.{Takes, list_comes, sign_comes}
use Rattle.parameter_runs.proofs.Lists.{lying, part_of, words_at}
use Rattle.parameter_runs.proofs.Reading.{found_at, takes_one}

-- ---- one is one while words of the newest frame tell something

pub listed_told :
    (waits : ℕ → Option ℕ) (φ : Layer) (φs : List Layer) (frame level : ℕ) (r : Entry) →
    HasListed (φ ∷ φs) frame level r → HasListed (with_waits waits φ ∷ φs) frame level r
listed_told waits φ φs frame level r (inl t) = inl (t.0, over_told φs t.1)
  where
    over_told : (ls : List Layer) → IsOver level r φ ls → IsOver level r (with_waits waits φ) ls
    over_told [] h = h
    over_told (ψ ∷ ψs) h =
        record { list = h.list; level_is = h.level_is; under = h.under; name = h.name; words = h.words }
listed_told waits φ φs frame level r (inr t) = inr t

unfoldable pub around_told :
    (k : Block) (φ : Layer) (φs : List Layer) (waits : ℕ → Option ℕ) → k.first.control.layers ≡ φ ∷ φs → (x : Spot) →
    IsParameterAround k x → IsParameterAround (telling waits φ φs k) x
around_told k φ φs waits newest x is =
    record {
      begun = begun_telling k φ φs waits newest is.begun;
      declared = is.declared;
      entry = is.entry;
      numbered_so = is.numbered_so;
      near = is.near;
      binding = is.binding;
      living = is.living;
      lives = is.lives;
      shape = is.shape;
      base = is.base;
      frame = frame_told k φ φs waits newest x.level is.base is.frame;
      listed = listed_told waits φ φs is.base x.level is.entry
          (subst (λ ls. HasListed ls is.base x.level is.entry) newest is.listed);
      few = is.few;
      small = is.small;
      number = is.number;
      numbered = is.numbered;
      low = is.low;
      inside = is.inside;
    }

-- ---- what it means

holds_at :
    {k : Block} {numbers : ℕ → ℕ} {p : Point} (x : Spot) (is : IsParameterAround k x) → IsAmong k numbers p →
    (h : P.Holds p.state x) × (h.serial ≡ is.entry.serial)
holds_at {p = p} x is o =
    let on : LivesOn is.living (living_of p.state.living is.entry.serial) =
    o.later.remains.living is.entry.serial is.living is.lives in
    let g = on.there.generation in (
      record {
        serial = is.entry.serial;
        stands =
            ap (λ xs. binding_in (ancestor xs (newest_height xs) x.level) x.index) o.later.activations ∙ is.binding;
        values = g.values;
        living = on.there;
        lives = on.lives;
        generation = generation_is g (on.shape ∙ is.shape) (o.stands.lives.extents is.entry.serial on.there on.lives);
      },
      refl,
    )

passed_means :
    (around : Around) {s : State} (x : Spot) (acts : ℕ) (h : P.Holds s x) →
    V.argument around (Y.ByReference (parameter x)) acts s
    ≡ Normal (V.EvaluatedArgument (PassedName (VariableName h.serial) parameter_shape)) s
unfolding V.argument give ◌>>=◌
passed_means around x acts h =
    ap (λ flow. flow_on acts flow (λ d. give (V.EvaluatedArgument (PassedName d.name d.generation.shape))))
    (P.designated_is around acts h)

-- ---- where its name stands

found :
    {k : Block} {x : Spot} {numbers : ℕ → ℕ} {p : Point} (is : IsParameterAround k x) → IsAmong k numbers p →
    Finds k.call.surroundings k.call.code p (list_by (x.level == k.environment.level) x.level is.entry.place)
    is.entry.serial is.entry.signature
found {k} {x} {numbers} {p} is o =
    let on = o.later.remains.living is.entry.serial is.living is.lives in
    let y = lying is o in
    let high = y.list.high in
    let room = y.list.room in
    let near = is.near in
    record {
      from = part_of is.entry;
      low = omega (arith, high);
      inside = omega (arith, room, near);
      there = λ b m bytes stands. (words_at is o b.at m stands.frames).name;
      comes = λ h c f l there.
          list_comes (x.level == k.environment.level) h (found_at is o h) c f l (λ b. known_in h (there b) tt);
      living = on.there;
      lives = on.lives;
      shape = on.shape ∙ is.shape;
      numbered = shapes_remain o.later.remains is.entry.signature parameter_shape is.numbered;
      number = is.number;
      small' = is.small;
    }

takes_again : Takes u1 answered_regs
takes_again =
    record {
      near = λ y u. refl;
      free = record { reserved_stay = λ y u. refl; known_stay = λ b y u o. o; set = λ y u. refl };
      far = record { reserved_stay = λ y u. refl; known_stay = λ b y u o. o; set = λ y u. refl };
      still = λ m. record { reserved_stay = λ y u. refl; known_stay = λ b y u o. o; set = λ y u. refl };
    }

-- ---- the whole

found_told :
    (k : Setting) {x : Spot} {φ : Layer} {φs : List Layer} {numbers : ℕ → ℕ} {told : Told} {p : Point} (told' : Told) →
    (newest : k.block.first.control.layers ≡ φ ∷ φs) (is : IsParameterAround k.block x) →
    IsAmong (telling told φ φs k.block) numbers p →
    (f : Finds k.block.call.surroundings k.block.call.code (with_list told' φ φs p)
    (list_by (x.level == k.block.environment.level) x.level is.entry.place) is.entry.serial is.entry.signature)
    × (f.from ≡ part_of is.entry)
unfolding around_told found
found_told k {x} {φ} {φs} {numbers} told' newest is o =
    let is' = around_told k.block φ φs told' newest x is in
    (found {k = telling told' φ φs k.block} {numbers = numbers} is' (told_again k told' newest o), refl)

signs_told :
    (k : Setting) {x : Spot} {φ : Layer} {φs : List Layer} {numbers : ℕ → ℕ} {told : Told} {p : Point} →
    (newest : k.block.first.control.layers ≡ φ ∷ φs) (is : IsParameterAround k.block x) →
    IsAmong (telling told φ φs k.block) numbers p →
    Signs k.block.call.surroundings k.block.call.code p φ φs
    (sign_by (x.level == k.block.environment.level) a1 x.level is.entry.place)
    (sign_by (x.level == k.block.environment.level) u1 x.level is.entry.place) (part_of is.entry) is.entry.signature
unfolding around_told
signs_told k {x} {φ} {φs} {numbers} newest is o =
    let q = x.level == k.block.environment.level in
    record {
      comes = λ told' h c f l there.
          sign_comes q a1 h (found_at {k = telling told' φ φs k.block} {numbers = numbers}
          (around_told k.block φ φs told' newest x is) (told_again k told' newest o) h) takes_one c f l there;
      again = λ told' h c f l there.
          sign_comes q u1 h (found_at {k = telling told' φ φs k.block} {numbers = numbers}
          (around_told k.block φ φs told' newest x is) (told_again k told' newest o) h) takes_again c f l there;
    }

pub around_passed :
    (k : Setting) (x : Spot) (φ : Layer) (φs : List Layer) → IsBegun k.block →
    k.block.first.control.layers ≡ φ ∷ φs → (is : IsParameterAround k.block x) →
    Passes k φ φs (parameter_of x) is.entry.serial is.entry.signature
unfolding around_told
around_passed k x φ φs begun newest is =
    let e = k.block.environment in
    let q = x.level == e.level in
    let place' = is.entry.place in
    let serial = is.entry.serial in
    let signature = is.entry.signature in
    record {
      comes = λ told p numbers taken all place count n last credits index f o part' l there.
          let w = k.block.call.surroundings in
          let code = k.block.call.code in
          let o' = told_again k told newest o in
          let here = o.later.layers in
          let eq = passed_coded e taken all place count n x place' is.declared is.numbered_so in
          let whole = passing_code (list_by q x.level place') (sign_by q a1 x.level place') (sign_by q u1 x.level
          place')
          place count n in
          let l' = subst (Linked w.links code index) eq l in
          let s = found_told k {x = x} {numbers = numbers} told newest is o in
          let signs = subst (λ from. Signs w code p φ φs (sign_by q a1 x.level place') (sign_by q u1 x.level place')
          from signature) (sym s.1) (signs_told k {x = x} {numbers = numbers} newest is o) in
          let r = name_passed p φ φs told place count n last credits index f (o'.stands, o'.image) s.0 signs part' l'
          (λ b. told_itself (with_waits told φ ∷ φs) here (there b)) in
          subst (λ c. Reach code credits f (services_of p) (credits + size_of c)
          (services_of (with_list (name_told last serial signature 0 told) φ φs p))
          (λ b y. IsIn w (with_list (name_told last serial signature 0 told) φ φs p) numbers (index + size_of c) b
          y)) (sym eq)
          (subst (λ v. Reach code credits f v (credits + size_of whole)
          (services_of (with_list (name_told last serial signature 0 told) φ φs p))
          (λ b y. IsIn w (with_list (name_told last serial signature 0 told) φ φs p) numbers
          (index + size_of whole) b y))
          (ap (λ ls. services_of (layered ls p)) (sym here)) r);
      means = λ told p numbers o.
          let h = holds_at {k = telling told φ φs k.block} x (around_told k.block φ φs told newest x is) o in
          passed_means k.around x k.block.call.surroundings.acts h.0
          ∙ ap (λ s. Normal (V.EvaluatedArgument (PassedName (VariableName s) parameter_shape)) p.state) h.1;
    }
