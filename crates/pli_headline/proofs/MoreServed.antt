-- One more variable is made by service 7, or passes the limit on automatic data.
use Rattle.std.proofs.Common.{◌≡◌, ℕ, ◌+◌, ◌-◌, ◌*◌, ◌^◌, ◌<◌, ◌≤◌, List, [], ◌∷◌, length, map, Option, Some, None, true, false, refl, sym, ap, ◌∙◌, subst, arith, lit<, add-one}
use Rattle.std.specs.Prelude.{pos, cond, min, ◌==◌, nat_lt, nat_le}
use Rattle.std.proofs.lemmas.Bool.{lt-ltb, le-ltb, le-leb}
use Rattle.std.proofs.lemmas.Bool.Decides.{nat_tests}
use Rattle.rv_meaning.specs.declared.instr.Instr.{Instr}
use Rattle.rv_meaning.specs.declared.instr.Instr.TheVariants as I
use Rattle.rv_meaning.specs.Memory.{load}
use Rattle.rv_meaning.specs.Machine.{memory_size}
use Rattle.rv_meaning.specs.Tables.{TableSignature}
use Rattle.pli_language.specs.Tree as T
use Rattle.pli_meaning.specs.declared.outcome.End.TheVariants as E
use Rattle.pli_meaning.specs.declared.outcome.Limit.TheVariants as L
use Rattle.pli_meaning.specs.World.{ending}
use Rattle.pli_meaning.specs.BasicValues.{VariableName}
use Rattle.pli_meaning.specs.Contents.{Shape, fresh, footprint_of}
use Rattle.pli_meaning.specs.StorageState.{State, most_automatic}
use Rattle.pli_meaning.specs.Control.{finish}
use Rattle.pli_serving.specs.Bytes.{with_bytes, name_bytes}
use Rattle.pli_serving.specs.Templates.{template_of, shape_at}
use Rattle.pli_serving.specs.ServiceState.{Services}
use Rattle.pli_serving.specs.Answers as N
use Rattle.pli_serving.specs.Answers.{Answer, Done, Ends}
use Rattle.pli_serving.specs.Outcomes.{or_bad}
use Rattle.pli_serving.specs.Arguments.{shape_of_number}
use Rattle.pli_serving.specs.InitialValues.{initial_values}
use Rattle.pli_serving.specs.Making as G
use Rattle.pli_coding.specs.Registers.{stack_register, frame_register}
use Rattle.pli_coding.specs.Assembly.{Datum, Plain, size_of}
use Rattle.pli_coding.specs.Instructions.{plus}
use Rattle.pli_coding.specs.Environments.{Environment}
use Rattle.pli_coding.specs.Frames.{last_place, automatic_place}
use Rattle.pli_coding.specs.Linking.{Links}
use Rattle.image_runs.specs.Runs.{Whole}
use Rattle.pli_headline.specs.ProvedSoFar.{Names, Kind, Types, AreConstants, IsHeld}
use Rattle.run_steps.specs.Unlimited as U
use Rattle.run_steps.specs.Engine.{Base, address, call_at}
use Rattle.run_steps.specs.Items.{Linked, At}
use Rattle.run_steps.proofs.Numbers.{above_sum}
use Rattle.run_steps.specs.Bodies.{Known, PlaceOf}
use Rattle.run_steps.proofs.Jumps.{first_of}
use Rattle.run_steps.specs.Temporaries.{nothing}
use Rattle.run_steps.specs.Calls.{Calling}
use Rattle.run_steps.proofs.Calls.{comes_finish, called, call_done, end_pauses, call_ends, acts}
use Rattle.pli_headline.proofs.Serving.{Serving}
use Rattle.run_steps.specs.Reach.{Family, Reach, Aims, Comes, Closed, cost, reached}
use Rattle.run_steps.proofs.Reach.{onward, reach_then, reach_map, reached_holds}
use Rattle.pli_headline.proofs.Scalars.{Values, begin_of, begin_text, begin_texts}
use Rattle.pli_headline.proofs.Holdings.{There, Content, content_for}
use Rattle.pli_headline.proofs.WrittenBytes.{length-with_bytes}
use Rattle.pli_headline.proofs.VariablePlaces.{data_size, data_fits, frame_size, frame_wide}
use Rattle.pli_headline.proofs.PlainNumbers.{number_for, Numbered, numbered_shape}
use Rattle.pli_headline.proofs.MainStates.{scalar_print, kind_shape}
use Rattle.pli_headline.proofs.InitialRead.{start_datum, start_of}
use Rattle.pli_headline.proofs.StandingBytes.{Begins}
use Rattle.pli_headline.proofs.VariableServed.{past_limit, data_of, scalar_made, data_length, made_kind}
use Rattle.pli_headline.proofs.NamesMade.{made_code, asked_regs, asked_size, made_size, call_linked, rest_linked, ground_asked}
use Rattle.pli_headline.proofs.JumpsOut.{stack_piece}
use Rattle.pli_headline.proofs.Statements.{Block, lower_ground}
use Rattle.pli_headline.proofs.MorePlaces.{More, more_ground}
use Rattle.pli_headline.proofs.MoreStates.{fresh_kind}
use Rattle.pli_headline.proofs.BegunValues.{AreBegun}
use Rattle.pli_headline.proofs.ArrayInitial.{numbers_of}

-- ---- the service

abbrev pub more_services : Services → (signature at : ℕ) → Services
more_services v signature at =
    G.with_living (record { serial = v.serials + 1; owner = length v.activations; signature = signature; at = at }) v

-- it reads there what a variable begins with
abbrev pub ReadsAt : (code : List Instr) → Services → (m : List ℕ) → Kind → List T.InitialItem → (start : ℕ) → Type 0
ReadsAt code v m k items start =
    initial_values (call_at code v m) (kind_shape k).signature.leaves start ≡ Some (items ∷ [])

make_limited : (code : List Instr) (v : Services) (m : List ℕ) (table : List TableSignature) (k : Kind) (items : List T.InitialItem) (name place start : ℕ) → v.signatures ≡ map template_of table → Numbered table k → 0 < length v.activations → ReadsAt code v m k items start → U.make_served (call_at code v m) name (number_for table k) start place 0 ≡ U.limited (call_at code v m) name (number_for table k) place (length v.activations) (fresh_kind k items)
make_limited code v m table k items name place start signs numbered some read =
    let c = call_at code v m in
    let n = number_for table k in
    let high = length v.activations in
    let last : ℕ → Shape → Answer = λ owner s. or_bad (initial_values c s.signature.leaves start) (λ values. U.limited c name n place owner (fresh s (pos 0) values)) in
    ap (λ q. or_bad (cond q (Some high) None) (λ owner. or_bad (shape_of_number c n) (last owner))) (lt-ltb 0 high some)
    ∙ ap (λ ts. or_bad (shape_at ts n) (last high)) signs
    ∙ ap (λ o. or_bad o (last high)) (numbered_shape table k numbered)
    ∙ ap (λ o. or_bad o (λ values. U.limited c name n place high (fresh (kind_shape k) (pos 0) values))) read

some_not : (n : ℕ) → 0 < n → (n == 0) ≡ false
some_not n h = grind (arith, nat_tests)

make_ends : (code : List Instr) (v : Services) (m : List ℕ) (table : List TableSignature) (k : Kind) (items : List T.InitialItem) (name place start c : ℕ) → v.signatures ≡ map template_of table → Numbered table k → 0 < length v.activations → 2 ^ 20 < G.automatic_in_use v.signatures v.living + frame_size k → v.world.acts ≤ c → c + 1 < 2 ^ 64 → ReadsAt code v m k items start → U.make_served (call_at code v m) name (number_for table k) start place 0 ≡ Ends (past_limit v)
make_ends code v m table k items name place start c signs numbered some over allowed fits read =
    let call = call_at code v m in
    let n = number_for table k in
    let high = length v.activations in
    let print = scalar_print (record { kind = k; initial = items }) numbered.held in
    let more = U.variable_made call name n place high (v.serials + 1) (fresh_kind k items) in
    let ends = N.acting v (Ends (past_limit v)) in
    make_limited code v m table k items name place start signs numbered some read
    ∙ ap (λ q. cond (cond q false (nat_lt most_automatic (G.automatic_in_use v.signatures v.living + footprint_of (fresh_kind k items)))) ends more) (some_not high some)
    ∙ ap (λ q. cond q ends more) (lt-ltb most_automatic (G.automatic_in_use v.signatures v.living + footprint_of (fresh_kind k items)) (omega (arith, over, print)))
    ∙ acts v c (Ends (past_limit v)) allowed fits

-- the bytes with which it begins
abbrev pub begun_of : Kind → List T.InitialItem → List ℕ
begun_of k items = data_of (record { kind = k; initial = items })

-- they fit what the frame has for them
begun_fits : (k : Kind) (items : List T.InitialItem) → IsHeld k.type k.bounds → 16 + length (begun_of k items) ≤ frame_size k
begun_fits k items held =
    let long = data_length (record { kind = k; initial = items }) held in
    let fits = data_fits k held in
    omega (arith, long, fits)

-- the memory with the variable and its name
abbrev pub more_made : List ℕ → (name place serial : ℕ) → Kind → List T.InitialItem → List ℕ
more_made m name place serial k items =
    with_bytes (name_bytes (VariableName serial)) name (with_bytes (begun_of k items) place m)

make_made : (code : List Instr) (v : Services) (m : List ℕ) (table : List TableSignature) (k : Kind) (items : List T.InitialItem) (name place start : ℕ) → AreConstants k.type items → v.signatures ≡ map template_of table → Numbered table k → 0 < length v.activations → G.automatic_in_use v.signatures v.living + frame_size k ≤ 2 ^ 20 → 4 * length code ≤ name → name + 16 ≤ place → place + frame_size k ≤ memory_size + 16 → ReadsAt code v m k items start → U.make_served (call_at code v m) name (number_for table k) start place 0 ≡ Done (more_services v (number_for table k) place) (more_made m name place (v.serials + 1) k items) name (number_for table k)
make_made code v m table k items name place start begins signs numbered some few low behind inside read =
    let call = call_at code v m in
    let n = number_for table k in
    let high = length v.activations in
    let print = scalar_print (record { kind = k; initial = items }) numbered.held in
    let all = data_fits k numbered.held in
    let more = U.variable_made call name n place high (v.serials + 1) (fresh_kind k items) in
    let ends = N.acting v (Ends (past_limit v)) in
    let t2 : nat_le (4 * length code) place ≡ true = le-leb _ _ (omega (arith, low, behind)) in
    let t3 : nat_le (place + data_size k) memory_size ≡ true = le-leb _ _ (omega (arith, inside, all)) in
    let t4 : nat_le (4 * length code) name ≡ true = le-leb _ _ (omega (arith, low)) in
    let wide = frame_wide k in
    let t5 : nat_le (name + 16) memory_size ≡ true = le-leb _ _ (omega (arith, behind, inside, wide)) in
    make_limited code v m table k items name place start signs numbered some read
    ∙ ap (λ q. cond (cond q false (nat_lt most_automatic (G.automatic_in_use v.signatures v.living + footprint_of (fresh_kind k items)))) ends more) (some_not high some)
    ∙ ap (λ q. cond q ends more) (le-ltb most_automatic (G.automatic_in_use v.signatures v.living + footprint_of (fresh_kind k items)) (omega (arith, few, print)))
    ∙ scalar_made call name n place high (v.serials + 1) (record { kind = k; initial = items }) numbered.held begins
    ∙ rw (t2, t3, t4, t5) refl

-- ---- what stands then

more_length : (m : List ℕ) (name place serial : ℕ) (k : Kind) (items : List T.InitialItem) → name + 16 ≤ place → place + length (begun_of k items) ≤ length m → length (more_made m name place serial k items) ≡ length m
more_length m name place serial k items behind inside =
    let one = length-with_bytes (begun_of k items) m place inside in
    length-with_bytes (name_bytes (VariableName serial)) (with_bytes (begun_of k items) place m) name (omega (arith, one, behind, inside)) ∙ one

-- behind a name, wherever that stands
abbrev begun_content : Kind → List T.InitialItem → Content
begun_content k items = content_for k (begin_of items) (begin_text k.type items) (numbers_of items) (begin_texts k.type items)

begun_there : (k : Kind) (items : List T.InitialItem) (m : List ℕ) (at serials : ℕ) → IsHeld k.type k.bounds → AreConstants k.type items → at + 200 + length (begun_of k items) ≤ length m → There (more_made m (at + 144) (at + 160) (serials + 1) k items) (at + 160) (begun_content k items)
begun_there k items m at serials held begins room =
    let a : at + (144 + 0) ≡ at + 144 = omega arith in
    let b : at + (144 + 0 + 16) ≡ at + 160 = omega arith in
    let c : at + (160 + 0) ≡ at + 160 = omega arith in
    let content = begun_content k items in
    subst (λ p. There (more_made m (at + 144) (at + 160) (serials + 1) k items) p content) c
    (subst (λ p. There (with_bytes (name_bytes (VariableName (serials + 1))) (at + 144) (with_bytes (begun_of k items) p m)) (at + (160 + 0)) content) b
    (subst (λ p. There (with_bytes (name_bytes (VariableName (serials + 1))) p (with_bytes (begun_of k items) (at + (144 + 0 + 16)) m)) (at + (160 + 0)) content) a
    (made_kind m at 0 serials k.type k.bounds items held begins (omega (arith, room)))))

more_stands : {e : Environment} {block : Names} {types : Types} (ib : Block e block types) (k : Kind) (items : List T.InitialItem) (n : Values) → IsHeld k.type k.bounds → AreConstants k.type items → AreBegun n (length types) k.type items → (t : ℕ → ℕ) (b : Base) (m : List ℕ) (name place serials : ℕ) → name ≡ ib.stack.free → place ≡ ib.stack.free + 16 → place + length (begun_of k items) + 40 ≤ length m → (ib.ground n).memory t b m → (more_ground ib k n).memory t b (more_made m name place (serials + 1) k items)
more_stands {types = types} ib k items n limits begins begun t b m name place serials here there inside held =
    let bytes = begun_of k items in
    let m1 = with_bytes bytes place m in
    let named = name_bytes (VariableName (serials + 1)) in
    let one = length-with_bytes bytes m place (omega (arith, inside)) in
    let high = ib.stack.high in
    let at = ib.stack.free - 144 in
    let e1 : at + 144 ≡ name = omega (arith, here, high) in
    let e2 : at + 160 ≡ place = omega (arith, there, high) in
    let e3 : at + 160 ≡ ib.stack.free + 16 = omega (arith, high) in
    let content = begun_content k items in
    let made : There (more_made m name place (serials + 1) k items) (ib.stack.free + 16) content =
    subst (λ q. There (more_made m q place (serials + 1) k items) (ib.stack.free + 16) content) e1
    (subst (λ q. There (more_made m (at + 144) q (serials + 1) k items) (ib.stack.free + 16) content) e2
    (subst (λ q. There (more_made m (at + 144) (at + 160) (serials + 1) k items) q content) e3
    (begun_there k items m at serials limits begins (omega (arith, e2, inside))))) in
    let m' = more_made m name place (serials + 1) k items in
    let count = length types in (
      ib.stack.keeps_bytes n t b m1 named name (omega (arith, here)) (omega (arith, one, here, there, inside)) (ib.stack.keeps_bytes n t b m bytes place (omega (arith, there)) (omega (arith, inside)) held),
      subst (λ y. There m' (ib.stack.free + 16) (content_for k (n.numbers count) (n.texts count) (n.arrays count) y)) (sym begun.texts)
          (subst (λ y. There m' (ib.stack.free + 16) (content_for k (n.numbers count) (n.texts count) y (begin_texts k.type items))) (sym begun.array)
          (subst (λ y. There m' (ib.stack.free + 16) (content_for k (n.numbers count) y (numbers_of items) (begin_texts k.type items))) (sym begun.text)
          (subst (λ y. There m' (ib.stack.free + 16) (content_for k y (begin_text k.type items) (numbers_of items) (begin_texts k.type items))) (sym begun.number) made))),
    )

-- ---- the code

-- the frame's own offset stands in it
abbrev pub OwnStands : {e : Environment} {block : Names} {types : Types} → Block e block types → Type 0
OwnStands ib = (n : Values) (t : ℕ → ℕ) (b : Base) (m : List ℕ) → (ib.ground n).memory t b m → load 4 m ((ib.ground n).frame + 36) ≡ (ib.ground n).frame

own_place : {e : Environment} {block : Names} {types : Types} (ib : Block e block types) (n : Values) → (ib.ground n).frame + 64 ≤ 14 * 2 ^ 20 → PlaceOf (ib.ground n) (pos 36) ((ib.ground n).frame + 36)
own_place ib n room =
    let g = ib.ground n in
    let whole = g.whole in
    let above = g.above_code in
    record {
      small' = lit< tt;
      sums = λ b. above_sum b.at g.frame 36 b.valid.1 (omega (arith, room));
      aligned = omega (arith, whole);
      inside = omega (arith, room);
      above_code = omega (arith, above);
    }

abbrev pub place_for : Environment → (index : ℕ) → ℕ
place_for e index = automatic_place e.parts e.program e.block e.level index

asked : {e : Environment} {block : Names} {types : Types} (ib : Block e block types) {index : ℕ} {k : Kind} (o : More ib index k) (own : OwnStands ib) {links : Links} {code : List Instr} {i : ℕ} (c : ℕ) (n : Values) (v : Services) (h t : ℕ → ℕ) (f : Family) (table : List TableSignature) (start : Option Datum) → start_of links start < 2 ^ 32 → Numbered table k → Linked links code i (made_code (frame_size k) (place_for e index) (number_for table k) start) → ((b : Base) → At b i (Known (ib.ground n) v h t nothing b) (f b)) → Reach code c f v (asked_size (place_for e index) (number_for table k) start c) v (λ b w. At b (asked_size (place_for e index) (number_for table k) start i) (Known (ib.ground n) v h t (asked_regs ((ib.ground n).frame + place_for e index) (number_for table k) (start_of links start) ((ib.ground n).frame + (place_for e index + 16))) b) w)
asked {e} ib {index} {k} o own c n v h t f table start fits numbered l at =
    let same = ib.stack.frame_is n in
    let place = o.place in
    let room = o.room in
    let above = ib.stack.above in
    let wide = frame_wide k in
    ground_asked c (ib.ground n) (own_place ib n (omega (arith, same, above, room))) (own n) v h t f (frame_size k) (place_for e index) (number_for table k) start fits numbered.few (omega (arith, same, place, room, wide)) l at

calling : {e : Environment} {block : Names} {types : Types} (ib : Block e block types) (index : ℕ) {links : Links} {code : List Instr} {i : ℕ} (n : Values) (v : Services) (h t : ℕ → ℕ) (f : Family) (signature start : ℕ) → Linked links code i (Plain I.Ecall ∷ []) → ((b : Base) → At b i (Known (ib.ground n) v h t (asked_regs ((ib.ground n).frame + place_for e index) signature start ((ib.ground n).frame + (place_for e index + 16))) b) (f b)) → Calling links code i f (λ b. U.make_served (call_at code v (f b).machine.memory) ((ib.ground n).frame + place_for e index) signature start ((ib.ground n).frame + (place_for e index + 16)) 0)
calling {e} ib index {code = code} n v h t f signature start l at =
    record {
      linked = l;
      pc = λ b. (at b).pc;
      answers = λ b.
          let o = (at b).holds in
          called code (f b) v 7 ((ib.ground n).frame + place_for e index) signature start ((ib.ground n).frame + (place_for e index + 16)) 0 (λ call x0 x1 x2 x3 x4. U.make_served call x0 x1 x2 x3 x4) o.body.services o.regs.0 o.regs.1.1.1.1.1.0 o.regs.1.1.1.1.0 o.regs.1.1.1.0 o.regs.1.1.0 o.regs.1.0 (λ call x. refl);
    }

-- within the limit
pub more_piece : {e : Environment} {block : Names} {types : Types} (ib : Block e block types) {index : ℕ} {k : Kind} (o : More ib index k) (own : OwnStands ib) {links : Links} {code : List Instr} {i : ℕ} (c : ℕ) (n : Values) (v : Services) (h t : ℕ → ℕ) (f : Family) (table : List TableSignature) (items : List T.InitialItem) → AreConstants k.type items → Begins links code (ib.ground n) k items → Numbered table k → v.signatures ≡ map template_of table → 0 < length v.activations → G.automatic_in_use v.signatures v.living + frame_size k ≤ 2 ^ 20 → AreBegun n (length types) k.type items → Linked links code i (made_code (frame_size k) (place_for e index) (number_for table k) (start_datum items)) → ((b : Base) → At b i (Known (ib.ground n) v h t nothing b) (f b)) → Reach code c f v (c + size_of (made_code (frame_size k) (place_for e index) (number_for table k) (start_datum items))) (more_services v (number_for table k) ((ib.ground n).frame + (place_for e index + 16))) (λ b w. At b (i + size_of (made_code (frame_size k) (place_for e index) (number_for table k) (start_datum items))) (Known (more_ground ib k n) (more_services v (number_for table k) ((ib.ground n).frame + (place_for e index + 16))) h t nothing b) w)
more_piece {e} {types = types} ib {index} {k} o own {links} {code} {i} c n v h t f table items begins reads numbered signs some few begun l at =
    let g = ib.ground n in
    let place = place_for e index in
    let sig = number_for table k in
    let start = start_datum items in
    let v' = more_services v sig (g.frame + (place + 16)) in
    let near = o.near in
    let counted : min last_place (place + frame_size k) ≡ place + frame_size k = omega (arith, near) in
    let ps = plus stack_register frame_register (pos (min last_place (place + frame_size k))) in
    let same = ib.stack.frame_is n in
    let here = o.place in
    let room = o.room in
    let high = ib.stack.high in
    let size = begun_fits k items o.held in
    let total = made_size (frame_size k) place sig start in
    let lc = call_linked (frame_size k) place sig start l in
    let r1 = asked ib o own c n v h t f table start reads.small' numbered l at in
    let m' : Base → List ℕ = λ b. more_made (reached r1 b).machine.memory (g.frame + place) (g.frame + (place + 16)) (v.serials + 1) k items in
    let call = calling ib index n v h t (reached r1) sig (start_of links start) (first_of (Plain I.Ecall) ps lc) (reached_holds r1) in
    let done : Calling links code (asked_size place sig start i) (reached r1) (λ b. Done v' (m' b) (g.frame + place) sig) = record {
      linked = call.linked;
      pc = call.pc;
      answers = λ b. call.answers b ∙ make_made code v (reached r1 b).machine.memory table k items (g.frame + place) (g.frame + (place + 16)) (start_of links start) begins signs numbered some few (let s = l.small' in omega (arith, s, same, here, high)) (omega arith) (omega (arith, same, here, room)) (let q = (reached_holds r1 b).holds.body in reads.read t b (reached r1 b).machine.memory q.memory q.bytes v);
    } in
    let r2 = call_done (asked_size place sig start c) (reached r1) v v' m' (λ b. g.frame + place) (λ b. sig) (λ b. Known (lower_ground (more_ground ib k n) ib.stack.free) v' h t nothing b) (omega arith) done
    (λ b. let q = (reached_holds r1 b).holds.body in record {
      body = record {
        services = refl;
        registers = q.registers ∙ ap (λ u. 0 ∷ (b.at + u) ∷ (b.at + g.frame) ∷ h 0 ∷ h 1 ∷ h 2 ∷ h 3 ∷ h 4 ∷ h 5 ∷ h 6 ∷ []) (ib.stack.free_is n);
        bytes = more_length (reached r1 b).machine.memory (g.frame + place) (g.frame + (place + 16)) (v.serials + 1) k items (omega arith) (let long = q.bytes in omega (arith, long, same, here, room, size)) ∙ q.bytes;
        memory = more_stands ib k items n o.held begins begun t b (reached r1 b).machine.memory (g.frame + place) (g.frame + (place + 16)) v.serials (omega (arith, same, here)) (omega (arith, same, here)) (let long = q.bytes in omega (arith, long, same, here, room, size)) q.memory;
      };
      regs = tt;
    }) in
    let r3 = stack_piece (more_ground ib k n) ib.stack.free (min last_place (place + frame_size k)) (asked_size place sig start c + 1) (reached r2) (omega (arith, same, here, counted)) (omega (arith, same, here, room, counted)) (rest_linked (frame_size k) place sig start l) (reached_holds r2) in
    let e1 : asked_size place sig start c + 1 + size_of ps ≡ c + size_of (made_code (frame_size k) place sig start) = omega (arith, total) in
    let e2 : asked_size place sig start i + 1 + size_of ps ≡ i + size_of (made_code (frame_size k) place sig start) = omega (arith, total) in
    let whole' = reach_then r1 (reach_then r2 r3) in
    let P : Base → Whole → Type 0 = λ b w. At b (i + size_of (made_code (frame_size k) place sig start)) (Known (more_ground ib k n) v' h t nothing b) w in
    let moved = reach_map P whole' (λ b w q. record { pc = q.pc ∙ ap (address b) e2; holds = q.holds }) in
    subst (λ u. Reach code c f v u v' P) e1 moved

-- past it
pub past_piece : {e : Environment} {block : Names} {types : Types} (ib : Block e block types) {index : ℕ} {k : Kind} (o : More ib index k) (own : OwnStands ib) {links : Links} {code : List Instr} {i : ℕ} {s : State} {v : Services} {h t : ℕ → ℕ} {aims : Aims (Unit {0})} (closed : Closed code aims) (n : Values) (f : Family) (table : List TableSignature) (items : List T.InitialItem) (c line : ℕ) → Begins links code (ib.ground n) k items → Numbered table k → v.signatures ≡ map template_of table → 0 < length v.activations → 2 ^ 20 < G.automatic_in_use v.signatures v.living + frame_size k → Linked links code i (made_code (frame_size k) (place_for e index) (number_for table k) (start_datum items)) → Serving c s v line → ((b : Base) → At b i (Known (ib.ground n) v h t nothing b) (f b)) → Comes code i f v aims (finish {R = Unit {0}} (E.Limit L.Automatic) c s)
past_piece {e} ib {index} {k} o own {links} {code} {i} {s} {v} {h} {t} closed n f table items c line reads numbered signs some over l serving at =
    let g = ib.ground n in
    let place = place_for e index in
    let sig = number_for table k in
    let start = start_datum items in
    let ps = plus stack_register frame_register (pos (min last_place (place + frame_size k))) in
    let lc = call_linked (frame_size k) place sig start l in
    onward closed (asked ib o own i n v h t f table start reads.small' numbered l at) (λ f' at'.
    let call = calling ib index n v h t f' sig (start_of links start) (first_of (Plain I.Ecall) ps lc) at' in
    let ends : Calling links code (asked_size place sig start i) f' (λ b. Ends (past_limit v)) = record {
      linked = call.linked;
      pc = call.pc;
      answers = λ b. call.answers b ∙ make_ends code v (f' b).machine.memory table k items (g.frame + place) (g.frame + (place + 16)) (start_of links start) c signs numbered some over serving.allowed serving.fits (let held = (at' b).holds.body in reads.read t b (f' b).machine.memory held.memory held.bytes v);
    } in
    let room : asked_size place sig start i < cost code = let inside = lc.inside in omega (arith, inside) in
    comes_finish (past_limit v) (E.Limit L.Automatic) c s serving.world (ap (ending (E.Limit L.Automatic)) serving.world)
    (end_pauses (asked_size place sig start i) f' v (past_limit v) room serving.running (λ b. (at' b).holds.body.services) (add-one v.world.acts) ends)
    (call_ends (asked_size place sig start i) f' v (past_limit v) (λ e'. cc e') ends))
