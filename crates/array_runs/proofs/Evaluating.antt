-- Subscripts come in their order: each waits in a register, up to where all that are left come by themselves.
use Rattle.std.proofs.Common.{◌≡◌, ℕ, ◌+◌, ◌<◌, ◌≤◌, List, [], ◌∷◌, ◌++◌, length, Bool, true, false, refl, sym}
use Rattle.std.proofs.Common.{ap, ◌∙◌, subst, arith}
use Rattle.std.specs.Prelude.{ℤ, ◌&&◌, take, if◌then◌else◌}
use Rattle.std.proofs.lemmas.Bool.{and_parts}
use Rattle.std.proofs.Math.Nat.{le-max_left, le-max_right}
use Rattle.rv_meaning.specs.Words.{word}
use Rattle.pli_typing.specs.Signatures.{Bounds}
use Rattle.pli_typing.specs.TypedTree as Y
use Rattle.pli_meaning.specs.Control.{Meaning, Normal, flow_on, give, ◌>>=◌}
use Rattle.pli_meaning.specs.Evaluating as V
use Rattle.pli_coding.specs.Assembly.{size_of}
use Rattle.pli_coding.specs.Environments.{save, with_number}
use Rattle.pli_coding.specs.Expressions.{number_code, subscripts_code}
use Rattle.pli_coding.specs.Locating.{are_simple, is_simple}
use Rattle.pli_coding.specs.Registers.{a0}
use Rattle.activation_relation.specs.Layers.{Point, services_of}
use Rattle.run_steps.specs.Items.{Linked}
use Rattle.run_steps.proofs.Jumps.{back_of, front_of}
use Rattle.run_steps.proofs.Linking.{size_append}
use Rattle.run_steps.proofs.Numbers.{word_small}
use Rattle.run_steps.specs.Reach.{Aims, Closed, Comes, Family, before, cost}
use Rattle.run_steps.proofs.Reach.{before_closed, comes_on, onward}
use Rattle.block_runs.specs.Machines.{AreIn}
use Rattle.block_runs.proofs.CallStatements.{comes_map}
use Rattle.block_runs.proofs.PointGrounds.{in_known, point_frame}
use Rattle.program_runs.specs.Statements.{IsAmong, IsBegun}
use Rattle.program_runs.proofs.JumpsOut.{jumps_since}
use Rattle.expression_runs.specs.Values.{HasRegisters, Setting, behind, in_registers, number_aims}
use Rattle.expression_runs.proofs.Saving.{held_after, held_among, held_is_given, held_stays, next_taken, register_left}
use Rattle.expression_runs.proofs.Saving.{saved_reach}
use Rattle.expression_runs.proofs.Words.{frame_of, known_word}
use Rattle.element_runs.proofs.SubscriptTests.{Jumps}
use Rattle.array_runs.specs.Subscripts.{AreSubscripts, IsSubscript}
use Rattle.array_runs.proofs.ArrayMeaning.{given_meant, none_meant, numbers_meant, rest_meant}
use Rattle.array_runs.proofs.Counting.{AreFound, IsFound}
use Rattle.array_runs.proofs.Simple.{brought_simple}

-- as many as there are dimensions
pub found_many :
    (k : Setting) (p : Point) (numbers : ℕ → ℕ) (h : frame_of k.block p) (taken : ℕ) (bs : List Bounds)
    (xs : Y.Numbers) (zs : List ℤ) → AreFound k p numbers h taken bs xs zs → take (length zs) bs ≡ bs
found_many k p numbers h taken [] Y.NoNumber [] found = refl
found_many k p numbers h taken (b ∷ bs) (Y.NumberThen s rest) (z ∷ zs) found =
    ap (λ cs. b ∷ cs) (found_many k p numbers h (taken + 1) bs rest zs found.2)
found_many k p numbers h taken [] Y.NoNumber (z ∷ zs) found = absurd found
found_many k p numbers h taken [] (Y.NumberThen s rest) zs found = absurd found
found_many k p numbers h taken (b ∷ bs) Y.NoNumber zs found = absurd found
found_many k p numbers h taken (b ∷ bs) (Y.NumberThen s rest) [] found = absurd found

-- registers for one, and for what its code needs
one_left :
    (k : Setting) (base t taken need : ℕ) (s : Y.Number) → taken ≤ base + t → IsSubscript k t need s →
    HasRegisters k base need → HasRegisters k taken 1
one_left k base t taken need s same is h =
    let room = h.0 in
    let enough = is.enough in
    let most = le-max_right is.first 1 in
    (omega (arith, same, room, enough, most), h.1)

first_left :
    (k : Setting) (base t taken need : ℕ) (s : Y.Number) → taken ≡ base + t → (is : IsSubscript k t need s) →
    HasRegisters k base need → HasRegisters k taken is.first
first_left k base t taken need s same is h =
    let room = h.0 in
    let enough = is.enough in
    let most = le-max_left is.first 1 in
    (omega (arith, same, room, enough, most), h.1)

-- all that are left come by themselves
pub simple_found :
    (k : Setting) (p : Point) (numbers : ℕ → ℕ) (h : frame_of k.block p) → IsBegun k.block →
    IsAmong k.block numbers p → (index : ℕ) (f : Family) → AreIn k.block.call.surroundings p numbers index f →
    (bs : List Bounds) (xs : Y.Numbers) (need base t taken : ℕ) → taken ≤ base + t → HasRegisters k base need →
    AreSubscripts k t need bs xs → are_simple k.block.environment xs ≡ true →
    (zs : List ℤ)
    × (V.numbers k.around xs k.block.call.surroundings.acts p.state ≡ Normal zs p.state)
    × AreFound k p numbers h taken bs xs zs
simple_found k p numbers h begun o index f there [] Y.NoNumber need base t taken same room subs is =
    ([], none_meant k.around k.block.call.surroundings.acts p.state, tt)
simple_found k p numbers h begun o index f there [] (Y.NumberThen s rest) need base t taken same room subs is =
    absurd subs
simple_found k p numbers h begun o index f there (b ∷ bs) Y.NoNumber need base t taken same room subs is = absurd subs
simple_found k p numbers h begun o index f there (b ∷ bs) (Y.NumberThen s rest) need base t taken same room subs is =
    let e = k.block.environment in
    let acts = k.block.call.surroundings.acts in
    let a = and_parts (is_simple e s) (are_simple e rest) is in
    let first = brought_simple k s (subs.0.simple a.0) begun p numbers h o index f there in
    let z = first.0 in
    let more = simple_found k p numbers h begun o index f there bs rest need base (t + 1) (taken + 1)
    (omega (arith, same)) room subs.1 a.1 in (
      z ∷ more.0,
      numbers_meant k.around s rest acts p.state
          ∙ ap (λ flow. flow_on acts flow (λ y. (V.numbers k.around rest) >>= (λ zs. give (y ∷ zs)))) first.1.meant
          ∙ rest_meant k.around z rest acts p.state
          ∙ ap (λ flow. flow_on acts flow (λ zs. give (z ∷ zs))) more.1
          ∙ given_meant z more.0 acts p.state,
      (
        subst (λ q. IsFound q k p numbers h taken s z) (sym is) first.1,
        one_left k base t taken need s same subs.0 room,
        more.2,
      ),
    )

-- what goes on behind them, at a point where each is found
abbrev pub Goes : (k : Setting) (bs : List Bounds) (xs : Y.Numbers) (aims : Aims (List ℤ)) (p : Point)
    (numbers : ℕ → ℕ) (taken end credits : ℕ) → Type 0
Goes k bs xs aims p numbers taken end credits =
    (q : Point) (after : ℕ → ℕ) (h : frame_of k.block q) (zs : List ℤ) → IsAmong k.block after q →
    p.state.world.acts ≤ q.state.world.acts → q.control.line ≡ p.control.line →
    ((n : ℕ) → n < taken → after n ≡ numbers n) → AreFound k q after h taken bs xs zs → (f : Family) →
    AreIn k.block.call.surroundings q after end f →
    aims.done credits f (services_of q) zs q.state

all_simple :
    (k : Setting) {aims : Aims (List ℤ)} (bs : List Bounds) (xs : Y.Numbers) (need base t : ℕ) → IsBegun k.block →
    AreSubscripts k t need bs xs → are_simple k.block.environment xs ≡ true → (p : Point) (numbers : ℕ → ℕ)
    (taken c index j d : ℕ) (f : Family) → taken ≡ base + t → HasRegisters k base need →
    IsAmong k.block numbers p → j ≡ index → d ≡ c → AreIn k.block.call.surroundings p numbers index f →
    Goes k bs xs aims p numbers taken j d →
    Comes k.block.call.code c f (services_of p) aims (V.numbers k.around xs k.block.call.surroundings.acts p.state)
all_simple k {aims} bs xs need base t begun subs is p numbers taken c index j d f same room o ej ed there next' =
    let h = point_frame o.stands o.image in
    let found = simple_found k p numbers h begun o index f there bs xs need base t taken (omega (arith, same)) room subs
    is in
    subst (Comes k.block.call.code c f (services_of p) aims) (sym found.1)
    (record {
      to = λ early.
          subst (λ n. aims.done n f (services_of p) found.0 p.state) ed
          (next' p numbers h found.0 o (omega arith) refl (λ n less. refl) found.2 f
          (subst (λ n. AreIn k.block.call.surroundings p numbers n f) (sym ej) there));
    })

-- from any point of the block, with so many registers from one on
abbrev pub Evaluated : (k : Setting) (bs : List Bounds) (xs : Y.Numbers) (need base t : ℕ) → Type 1
Evaluated k bs xs need base t =
    (aims : Aims (List ℤ)) → IsBegun k.block → Closed k.block.call.code aims → AreSubscripts k t need bs xs →
    (p : Point) (numbers : ℕ → ℕ) (taken c index : ℕ) (f : Family) → taken ≡ base + t → HasRegisters k base need →
    Jumps k p.state.world.acts aims → IsAmong k.block numbers p → p.control.line ≡ k.around.line →
    Linked k.block.call.surroundings.links k.block.call.code index
    (subscripts_code k.block.environment (in_registers k.words taken) xs) →
    c + size_of (subscripts_code k.block.environment (in_registers k.words taken) xs) + k.most
    ≤ cost k.block.call.code → AreIn k.block.call.surroundings p numbers index f →
    Goes k bs xs aims p numbers taken
    (index + size_of (subscripts_code k.block.environment (in_registers k.words taken) xs))
    (c + size_of (subscripts_code k.block.environment (in_registers k.words taken) xs)) →
    Comes k.block.call.code c f (services_of p) aims (V.numbers k.around xs k.block.call.surroundings.acts p.state)

waits_first :
    (k : Setting) (b : Bounds) (bs : List Bounds) (s : Y.Number) (rest : Y.Numbers) (need base t : ℕ) (q : Bool) →
    (is_simple k.block.environment s && are_simple k.block.environment rest) ≡ q →
    Evaluated k bs rest need base (t + 1) → Evaluated k (b ∷ bs) (Y.NumberThen s rest) need base t
waits_first k b bs s rest need base t true is again aims begun closed subs p numbers taken c index f same room jumps o
    line l paid there next' =
    let t0 = in_registers k.words taken in
    let e = k.block.environment in
    let none = ap (λ q. size_of (if q then []
    else number_code e t0 s ++ (save a0 t0 ++ subscripts_code e (with_number t0) rest))) is in
    all_simple k (b ∷ bs) (Y.NumberThen s rest) need base t begun subs is p numbers taken c index _ _ f same room o
    (omega (arith, none)) (omega (arith, none)) there next'
waits_first k b bs s rest need base t false is again aims begun closed subs p numbers taken c index f same room jumps o
    line l paid there next' =
    let e = k.block.environment in
    let w = k.block.call.surroundings in
    let code = k.block.call.code in
    let t0 = in_registers k.words taken in
    let part = number_code e t0 s in
    let put' = save a0 t0 in
    let last = subscripts_code e (with_number t0) rest in
    let coded = ap (λ q. if q then [] else part ++ (put' ++ last)) is in
    let n0 = ap (λ u. size_of u) coded in
    let n1 = size_append part (put' ++ last) in
    let n2 = size_append put' last in
    let one = one_left k base t taken need s (omega (arith, same)) subs.0 room in
    let next_same = next_taken k.words taken (register_left k taken 1 one (omega arith)) in
    let last' = subscripts_code e (in_registers k.words (taken + 1)) rest in
    let n3 = ap (λ u. size_of (subscripts_code e u rest)) next_same in
    let l' = subst (Linked w.links code index) coded l in
    let l1 = back_of part (put' ++ last) l' in
    let l2 = subst (λ u. Linked w.links code (index + size_of part + size_of put') (subscripts_code e u rest))
    next_same (back_of put' last l1) in
    let i2 = index + size_of part + size_of put' in
    let c2 = c + size_of part + size_of put' in
    let next : ℤ → Meaning (List ℤ) = λ z. (V.numbers k.around rest) >>= (λ zs. give (z ∷ zs)) in
    subst (Comes code c f (services_of p) aims) (sym (numbers_meant k.around s rest w.acts p.state))
    (comes_on w.acts (V.number k.around s w.acts p.state) next
    (comes_map (number_aims k.block k.labels (behind p numbers taken c index part)) (before code aims w.acts next)
    jumps.0 (V.number k.around s w.acts p.state)
    (λ c1 f1 v1 z s1 q1.
    let o1 = q1.1 in
    let p1 = o1.point in
    let since = o1.since in
    let h1 = point_frame o1.among.stands o1.among.image in
    let small' = word_small z q1.0 in
    let held = held_after o1.numbers taken (word z) in
    let among = held_among k taken 1 (word z) one (omega arith) small' o1.among in
    let more : List ℤ → Meaning (List ℤ) = λ zs. give (z ∷ zs) in
    subst (λ u. Comes code c1 f1 v1 aims (next z w.acts u)) (sym o1.state)
    (onward closed o1.reach
    (λ g1 at1.
    onward closed
    (saved_reach k taken 0 h1 one (c + size_of part) g1 (word z) small' (front_of put' last l1)
    (λ b'. known_word k.block h1 (at1 b')))
    (λ g2 at2.
    subst (Comes code c2 g2 (services_of p1) aims) (sym (rest_meant k.around z rest w.acts p1.state))
    (comes_on w.acts (V.numbers k.around rest w.acts p1.state) more
    (again (before code aims w.acts more) begun
    (before_closed w.acts more closed) subs.1 p1 held (taken + 1) c2 i2 g2 (omega (arith, same)) room
    (jumps.0, λ c' f' v' height label s' q. jumps.1 c' f' v' height label s' (jumps_since since q)) among
    (o1.line ∙ line) l2 (omega (arith, paid, n0, n1, n2, n3)) (λ b'. in_known h1 among.image.parts (at2 b'))
    (λ q after h zs among2 since2 line2 stays found f' in'.
    subst (Comes code (c2 + size_of last') f' (services_of q) aims)
    (sym (given_meant z zs w.acts q.state))
    (record {
      to = λ early'.
          subst (λ n. aims.done n f' (services_of q) (z ∷ zs) q.state) (omega (arith, n0, n1, n2, n3))
          (next' q after h (z ∷ zs) among2 (omega (arith, since, since2)) (line2 ∙ o1.line)
          (λ n less. stays n (omega (arith, less)) ∙ held_stays o1.numbers taken (word z) n less
          ∙ o1.stays n less) (
            subst (λ j. IsFound j k q after h taken s z) (sym is) (record {
              wide = q1.0;
              waits = stays taken (omega arith) ∙ held_is_given o1.numbers taken (word z);
            }),
            one,
            found,
          ) f'
          (subst (λ j. AreIn w q after j f') (omega (arith, n0, n1, n2, n3)) in'));
    }))))))))
    (λ c1 f1 v1 height label s1 q1. jumps.1 c1 f1 v1 height label s1 q1)
    (λ c1 f1 v1 r s1 q1. absurd q1)
    (subs.0.does p numbers taken c index f o line (first_left k base t taken need s same subs.0 room)
    (front_of part (put' ++ last) l') (omega (arith, paid, n0, n1)) there)))

pub evaluates :
    (k : Setting) (bs : List Bounds) (xs : Y.Numbers) (need base t : ℕ) → Evaluated k bs xs need base t
evaluates k bs Y.NoNumber need base t aims begun closed subs p numbers taken c index f same room jumps o line l paid
    there next' =
    all_simple k bs Y.NoNumber need base t begun subs refl p numbers taken c index _ _ f same room o (omega arith)
    (omega arith) there next'
evaluates k [] (Y.NumberThen s rest) need base t aims begun closed subs p numbers taken c index f same room jumps o line
    l paid there next' =
    absurd subs
evaluates k (b ∷ bs) (Y.NumberThen s rest) need base t aims begun closed subs p numbers taken c index f same room jumps
    o line l paid there next' =
    waits_first k b bs s rest need base t (is_simple k.block.environment s && are_simple k.block.environment rest) refl
    (evaluates k bs rest need base (t + 1)) aims begun closed subs p numbers taken c index f same room jumps o line l
    paid there next'
