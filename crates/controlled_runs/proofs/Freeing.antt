-- FREE of a CONTROLLED variable: its act, and service 17.
use Rattle.std.proofs.Common.{◌≡◌, ℕ, ◌+◌, ◌*◌, ◌^◌, ◌<◌, ◌≤◌, length, List, [], ◌∷◌, ◌++◌, Option, Some, Bool, true}
use Rattle.std.proofs.Common.{refl, sym, ap, ◌∙◌, subst, arith}
use Rattle.std.proofs.lemmas.Bool.{lt-ltb}
use Rattle.std.specs.Prelude.{pos}
use Rattle.rv_meaning.specs.declared.instr.Instr.{Instr}
use Rattle.rv_meaning.specs.declared.instr.Instr.TheVariants as I
use Rattle.pli_typing.specs.TypedTree as Y
use Rattle.pli_meaning.specs.Contents.{without_offset}
use Rattle.pli_meaning.specs.Control.{Flow, Label, Meaning, Normal, act, stored, give, ◌>>=◌, ◌>>◌}
use Rattle.pli_meaning.specs.Executing as M
use Rattle.pli_meaning.specs.Placing as P
use Rattle.pli_meaning.specs.Raising.{Around, at_line}
use Rattle.pli_meaning.specs.StorageState.{Stack, State, heap_serial, offsets_of, with_offsets, with_world}
use Rattle.pli_meaning.specs.World.{counted}
use Rattle.pli_serving.specs.Answers.{Done}
use Rattle.pli_serving.specs.ControlledServices as K
use Rattle.pli_serving.specs.ServiceState.{Controlled, Services}
use Rattle.pli_coding.specs.Allocating.{act_code}
use Rattle.pli_coding.specs.Assembly.{Code, Plain, size_of}
use Rattle.pli_coding.specs.Instructions.{number, service, small}
use Rattle.pli_coding.specs.Registers.{a0, a7}
use Rattle.storage_relation.specs.Changes.{area_then}
use Rattle.storage_relation.specs.Controlled.{AllLive, Variable, offsets_at, offsets_in}
use Rattle.storage_relation.specs.Served.{Holds, call}
use Rattle.storage_relation.proofs.Controlled.{pop_none}
use Rattle.storage_relation.proofs.Making.{same_held}
use Rattle.storage_relation.proofs.Stacks.{stacks_popped}
use Rattle.activation_relation.specs.Frames.{frame_under, upper_top}
use Rattle.activation_relation.specs.Layers.{Point, now, services_of}
use Rattle.activation_relation.specs.Points.{Surroundings}
use Rattle.run_steps.specs.Bodies.{Known, reserved}
use Rattle.run_steps.proofs.Bodies.{constant_piece, zero_is}
use Rattle.run_steps.specs.Calls.{Calling}
use Rattle.run_steps.proofs.Calls.{call_done, called}
use Rattle.run_steps.specs.Engine.{Base}
use Rattle.run_steps.specs.Items.{At, Linked}
use Rattle.run_steps.proofs.Items.{straight}
use Rattle.run_steps.proofs.Jumps.{back_of, front_of}
use Rattle.run_steps.proofs.Linking.{size_append}
use Rattle.run_steps.specs.Owing.{owing}
use Rattle.run_steps.proofs.Owing.{comes_owing, done_owing, owing_closed}
use Rattle.run_steps.specs.Reach.{Aims, Comes, Family, Reach, cost, reached}
use Rattle.run_steps.proofs.Reach.{before_closed, comes_on, reach_map, reach_then, reached_holds}
use Rattle.run_steps.proofs.Reaching.{reach_moved}
use Rattle.run_steps.specs.Temporaries.{nothing}
use Rattle.block_runs.specs.Machines.{AreIn, IsIn, acted}
use Rattle.block_runs.proofs.BlockEntries.{small_is, word_fits, word_is}
use Rattle.block_runs.proofs.PointActs.{act_comes}
use Rattle.block_runs.proofs.PointGrounds.{StandsIn, call_is, in_known, known_in, point_frame, point_ground}
use Rattle.program_runs.specs.Statements.{Block, IsAmong, size_in}
use Rattle.program_runs.proofs.Statements.{acted_among}
use Rattle.expression_runs.specs.Variables.{Spot}
use Rattle.controlled_runs.specs.Freeing.{IsFreeing, freeing}
use Rattle.controlled_runs.specs.Lists.{DoesListed, IsListed, ListsStand, controlled_of, listed, listed_aims, number_of}
use Rattle.controlled_runs.proofs.ListedPoints.{goes_listed, listed_closed, lists_acted, lists_in, relisted}
use Rattle.controlled_runs.proofs.ListedPoints.{relisted_among}
use Rattle.controlled_runs.proofs.ListedPoints.{relisted_in}
use Rattle.controlled_runs.proofs.PopAnswers.{popped_there}

-- ---- what it means

pub free_means :
    (around : Around) (x : Spot) (k : ℕ) (s : State) →
    P.freeings around (Y.FreeControlled (controlled_of x) ∷ []) k s
    ≡ Normal tt (with_world s.world (P.controlled_freed (controlled_of x) s))
unfolding P.freeings P.freeing stored give ◌>>=◌ ◌>>◌
free_means around x k s = refl

-- ---- the point behind it

abbrev pub popped_point : Spot → (number : ℕ) → Controlled → List Controlled → Point → Point
popped_point x number k ks p =
    relisted p.places.heap_made (without_offset k.offset p.state.heap)
    (with_offsets x.block x.index (offsets_in ks) p.state.controlled)
    (K.with_controlled number ks (services_of p)).controlled p

-- ---- up to the call

abbrev pub called_code : (number' : ℕ) → Code
called_code n = number a0 n ++ (small a7 17 ∷ Plain I.Ecall ∷ [])

abbrev given_regs : (n : ℕ) → Base → List (ℕ × ℕ)
given_regs n b = (17, 17) ∷ (10, n) ∷ []

-- ---- what it leaves

pub record Leaves (w : Surroundings) (q u : Point) (b : Base) (m : List ℕ) (n y : ℕ) : Type 0 where
  pub memory : List ℕ
  pub stands : StandsIn w u b memory
  pub many : length memory ≡ length m
  pub answered : K.pop_served (call (now q m)) n y ≡ Done (services_of u) memory n y

is_small : (n : ℕ) → n < 2 ^ 16 → K.is_controlled n ≡ true
is_small n few = lt-ltb n (2 ^ 16) few

-- no generation
none_leaves :
    {of : ℕ → Option Variable} {k : Block} {x : Spot} {q : Point} (is : IsListed of k x) → ListsStand of q →
    offsets_at q.state (listed x) ≡ [] → (b : Base) (m : List ℕ) (y : ℕ) → StandsIn k.call.surroundings q b m →
    Leaves k.call.surroundings q q b m (number_of k x) y
none_leaves {of} {k} {x} {q} is lists none b m y stands =
    record {
      memory = m;
      stands = stands;
      many = refl;
      answered =
          pop_none (now q m) (listed x) (number_of k x) y ((lists_in q m lists).each (number_of k x) (listed x)
          is.named)
          (is_small (number_of k x) is.few) none;
    }

popped_leaves :
    {of : ℕ → Option Variable} {k : Block} {x : Spot} {q : Point} {numbers : ℕ → ℕ} (is : IsListed of k x) →
    IsAmong k numbers q → ListsStand of q → (c : Controlled) (cs : List Controlled) →
    q.control.controlled (number_of k x) ≡ c ∷ cs → (b : Base) (m : List ℕ) (y : ℕ) →
    StandsIn k.call.surroundings q b m →
    Leaves k.call.surroundings q (popped_point x (number_of k x) c cs q) b m (number_of k x) y
popped_leaves {of} {k} {x} {q} is o lists c cs top b m y stands =
    let n = number_of k x in
    let live = (lists.each n (listed x) is.named).live in
    let first = subst (λ ks. AllLive q.places q.state ks) top live in
    let t = popped_there (now q m) stands.storage n y c cs top first.0 (is_small n is.few) in
    let u = popped_point x n c cs q in
    let h = t.holds in
    record {
      memory = t.memory;
      stands = relisted_in k.call.surroundings q.places.heap_made (without_offset c.offset q.state.heap)
          (with_offsets x.block x.index (offsets_in cs) q.state.controlled)
          (K.with_controlled n cs (services_of q)).controlled q b m t.memory o.stands stands
          (record {
            keeps = h.keeps;
            heap = record { at = h.heap.at; capacity = h.heap.capacity };
            lives = record {
              falling = h.lives.falling;
              numbered = h.lives.numbered;
              extents = h.lives.extents;
            };
            stored = same_held q.keeper q.places (area_then heap_serial (without_offset c.offset) t.memory (now q
                m)).state u.state t.memory refl refl h.stored;
            distinct = h.distinct;
          })
          t.beside;
      many = t.beside.as_many;
      answered = t.answered;
    }

-- ---- the run of service 17

call_comes :
    {k : Block} {q : Point} {numbers : ℕ → ℕ} {i : ℕ} (u : Point) (n : ℕ) → n < 2 ^ 16 → IsAmong k numbers q →
    (services_of q).world.acts ≤ (services_of u).world.acts → IsAmong k numbers u →
    ((b : Base) (m : List ℕ) (y : ℕ) → StandsIn k.call.surroundings q b m → Leaves k.call.surroundings q u b m n y) →
    u.control.layers ≡ q.control.layers → (c : ℕ) (f : Family) →
    Linked k.call.surroundings.links k.call.code i (called_code n) → AreIn k.call.surroundings q numbers i f →
    Reach k.call.code c f (services_of q) (c + size_of (called_code n)) (services_of u)
    (λ b y. IsIn k.call.surroundings u numbers (i + size_of (called_code n)) b y)
call_comes {k} {q} {numbers} {i} u n few o more o' leaves layers c f l there =
    let w = k.call.surroundings in
    let code = k.call.code in
    let h = point_frame o.stands o.image in
    let h' = point_frame o'.stands o'.image in
    let v = services_of q in
    let num = number a0 n in
    let two = small a7 17 ∷ [] in
    let last = Plain I.Ecall ∷ [] in
    let n0 = size_append num (small a7 17 ∷ last) in
    let l1 = back_of num (small a7 17 ∷ last) l in
    let r1 = constant_piece {rs = nothing} c f a0 (pos n) (word_fits n (omega (arith, few)))
    (record { reserved_stay = λ y u. refl; known_stay = λ b y u s. s; set = λ y u. refl })
    (front_of num (small a7 17 ∷ last) l)
    (λ b. known_in {t = λ j. 0} {rs = nothing} h (there b) tt) in
    let r2 = straight (c + size_of num) (reached r1) v v
    (λ b y. Known (point_ground w q h) v numbers (λ j. 0) (given_regs n) b y) (front_of two last l1) (omega arith)
    (λ b. (reached_holds r1 b).pc)
    (λ b. let s = (reached_holds r1 b).holds in record {
      body = record {
        services = s.body.services;
        registers = s.body.registers;
        bytes = s.body.bytes;
        memory = s.body.memory;
      };
      regs = (small_is _ 17 (zero_is s.body) (omega arith), (s.regs.0 ∙ word_is n (omega (arith, few)), tt));
    }) in
    let g = reached r2 in
    let y1 : Base → ℕ = λ b. (g b).machine.registers 11 in
    let left' : (b : Base) → Leaves w q u b (g b).machine.memory n (y1 b) =
    λ b. leaves b (g b).machine.memory (y1 b) (reached_holds r2 b).holds.body.memory in
    let calling : Calling w.links code (i + size_of num + 1) g (λ b. Done (services_of u) (left' b).memory n (y1 b)) =
    record {
      linked = back_of two last l1;
      pc = λ b. (reached_holds r2 b).pc;
      answers = λ b.
          let t = (reached_holds r2 b).holds in
          let y = (g b).machine.registers in
          called code (g b) v 17 n (y 11) (y 12) (y 13) (y 14) (λ call' x0 x1 x2 x3 x4. K.pop_served call' x0 x1)
          t.body.services t.regs.0 t.regs.1.0 refl refl refl refl (λ call' u. refl)
          ∙ ap (λ call'. K.pop_served call' n (y 11)) (call_is w code q (g b).machine.memory o.image)
          ∙ (left' b).answered;
    } in
    let r3 = call_done (c + size_of num + 1) g v (services_of u) (λ b. (left' b).memory) (λ b. n) y1
    (λ b y. Known (point_ground w u h') (services_of u) numbers (λ j. 0) nothing b y) more calling
    (λ b. let t = (reached_holds r2 b).holds in record {
      body = record {
        services = refl;
        registers = subst (λ ls. reserved (g b).machine.registers ≡ 0 ∷ (b.at + upper_top w.parts ls)
            ∷ (b.at + frame_under w.parts ls) ∷ numbers 0 ∷ numbers 1 ∷ numbers 2 ∷ numbers 3 ∷ numbers 4 ∷ numbers 5
            ∷ numbers 6 ∷ []) (sym layers) t.body.registers;
        bytes = (left' b).many ∙ t.body.bytes;
        memory = (left' b).stands;
      };
      regs = tt;
    }) in
    reach_map _ (reach_moved (omega (arith, n0)) (omega (arith, n0)) (reach_then r1 (reach_then r2 r3)))
    (λ b y t. in_known {t = λ j. 0} {rs = nothing} h' o'.image.parts t)

-- ---- behind its act

freeing_reaches :
    {of : ℕ → Option Variable} {k : Block} {x : Spot} {q : Point} {numbers : ℕ → ℕ} {i : ℕ} (is : IsListed of k x) →
    IsAmong k numbers q → ListsStand of q → (wanted left' acts : ℕ) (labels : List Label) → acts ≤ q.state.world.acts →
    (f : Family) → Linked k.call.surroundings.links k.call.code i (called_code (number_of k x)) →
    AreIn k.call.surroundings q numbers i f →
    Comes k.call.code 0 f (services_of q)
    (owing k.call.code (size_of (called_code (number_of k x)))
    (listed_aims of k labels acts (i + size_of (called_code (number_of k x))) wanted left'))
    (Normal tt (with_world q.state.world (P.controlled_freed (controlled_of x) q.state)))
freeing_reaches {of} {k} {x} {q} {numbers} {i} is o lists wanted left' acts labels since f l there =
    by (q.control.controlled n) refl
  where
    n : ℕ
    n = number_of k x

    debt : ℕ
    debt = size_of (called_code n)

    aims : Aims (Unit {0})
    aims = listed_aims of k labels acts (i + debt) wanted left'

    told : offsets_in (q.control.controlled n) ≡ offsets_of q.state.controlled x.block x.index
    told = (lists.each n (listed x) is.named).offsets

    Goal : Flow (Unit {0}) → Type 0
    Goal flow = Comes k.call.code 0 f (services_of q) (owing k.call.code debt aims) flow

    goes :
        (u : Point) → IsAmong k numbers u → ListsStand of u → acts ≤ u.state.world.acts →
        Reach k.call.code 0 f (services_of q) (0 + debt) (services_of u)
        (λ b y. IsIn k.call.surroundings u numbers (i + debt) b y) →
        Goal (Normal tt u.state)
    goes u o' lists' since' r =
        record {
          to = λ early. done_owing (listed_closed of k labels acts (i + debt) wanted left') debt wanted (omega arith) r
              tt
              u.state
              (λ g' at'. goes_listed u acts wanted g' since' o' lists' at');
        }

    by : (cs : List Controlled) → q.control.controlled n ≡ cs →
        Goal (Normal tt (with_world q.state.world (P.controlled_freed (controlled_of x) q.state)))
    by [] e =
        let none : offsets_of q.state.controlled x.block x.index ≡ [] = sym told ∙ ap offsets_in e in
        subst (λ os. Goal (Normal tt (with_world q.state.world (P.without_newest_of (controlled_of x) os q.state))))
        (sym none)
        (goes q o lists since
        (call_comes q n is.few o (omega arith) o (λ b m y stands. none_leaves is lists none b m y stands) refl 0 f l
        there))
    by (c ∷ cs) e =
        let some : offsets_of q.state.controlled x.block x.index ≡ c.offset ∷ offsets_in cs = sym told ∙ ap offsets_in
        e in
        let u = popped_point x n c cs q in
        let o' = relisted_among q.places.heap_made (without_offset c.offset q.state.heap)
        (with_offsets x.block x.index (offsets_in cs) q.state.controlled)
        (K.with_controlled n cs (services_of q)).controlled o in
        let after = stacks_popped (now q []) of lists (listed x) n c cs [] is.named e in
        subst (λ os. Goal (Normal tt (with_world q.state.world (P.without_newest_of (controlled_of x) os q.state))))
        (sym some)
        (goes u o' after since
        (call_comes u n is.few o (omega arith) o' (λ b m y stands. popped_leaves is o lists c cs e b m y stands) refl 0
        f l there))

append_nil : (xs : Code) → xs ++ [] ≡ xs
append_nil [] = refl
append_nil (x ∷ xs) = ap (λ u. x ∷ u) (append_nil xs)

pub free_does :
    (of : ℕ → Option Variable) (k : Block) (labels : List Label) (x : Spot) (line index left' : ℕ) →
    IsFreeing of k x line index → DoesListed of k labels (freeing x line) index left'
unfolding M.statement ◌>>◌
free_does of k labels x line index left' h q numbers c wanted f o lists paid there =
    let w = k.call.surroundings in
    let code = k.call.code in
    let stmt = freeing x line in
    let around' = at_line k.around line in
    let one = act_code line in
    let rest = called_code (number_of k x) in
    let coded = ap (λ u. one ++ u) (append_nil rest) in
    let n0 = size_append one rest in
    let n1 = ap (λ u. size_of u) coded in
    let l = subst (Linked w.links code index) coded h.statement in
    let debt = size_of rest in
    let acts = q.state.world.acts in
    let i = index + size_in k stmt in
    let aims = listed_aims of k labels acts i wanted left' in
    let next' : Unit {0} → Meaning (Unit {0}) =
    λ u. P.freeings around' (Y.FreeControlled (controlled_of x) ∷ []) in
    let end : index + size_of one + size_of rest ≡ i = omega (arith, n0, n1) in
    comes_owing debt (M.statement k.around stmt w.acts q.state)
    (comes_on w.acts (act counted w.acts q.state) next'
    (act_comes (before_closed w.acts next' (owing_closed code debt aims)) line
    (c + debt) 0 f (o.stands, o.image)
    (h.act.line_fits, h.act.acts, omega (arith, paid, n0, n1)) (front_of one rest l) there
    (λ g less at'.
    let o' = acted_among line o less in
    subst (λ flow. Comes code 0 g (services_of (acted line q)) (owing code debt aims) flow)
    (sym (free_means around' x w.acts (acted line q).state))
    (subst (λ j. Comes code 0 g (services_of (acted line q)) (owing code debt (listed_aims of k labels acts j wanted
    left'))
    (Normal tt (with_world (acted line q).state.world (P.controlled_freed (controlled_of x) (acted line q).state)))) end
    (freeing_reaches h.variable o' (lists_acted q line lists) wanted left' acts labels (omega arith) g
    (back_of one rest l) at')))))
