-- A call of a procedure inside the main one, without arguments: up to the procedure's first instruction.
use Rattle.std.proofs.Common.{◌≡◌, ℕ, ◌+◌, ◌*◌, ◌^◌, ◌<◌, ◌≤◌, List, [], ◌∷◌, ◌++◌, Bool, true, false, refl, ap, ◌∙◌, arith}
use Rattle.std.specs.Prelude.{ℤ, pos, cond, ◌==◌}
use Rattle.rv_meaning.specs.declared.instr.Instr.{Instr}
use Rattle.rv_meaning.specs.declared.instr.Instr.TheVariants as I
use Rattle.rv_meaning.specs.declared.instr.ImmediateOp.TheVariants as Imm
use Rattle.rv_meaning.specs.Words.{word, sum}
use Rattle.rv_meaning.specs.Machine.{memory_size}
use Rattle.pli_serving.specs.ServiceState.{Services}
use Rattle.pli_coding.specs.Registers.{frame_register, a0, a1, a2}
use Rattle.pli_coding.specs.Assembly.{ProcedureEntry, CallTo, Code, size_of}
use Rattle.pli_coding.specs.Instructions.{is_immediate, move, number, plus, load_word}
use Rattle.pli_coding.specs.Frames.{display}
use Rattle.pli_coding.specs.Environments.{Environment}
use Rattle.pli_coding.specs.Expressions.{frame_given}
use Rattle.pli_coding.specs.Linking.{Links, place_of}
use Rattle.pli_headline.specs.ProvedSoFar.{Names, Types}
use Rattle.run_steps.specs.Engine.{Base, address, most_code}
use Rattle.run_steps.proofs.Linking.{size_append}
use Rattle.run_steps.specs.Items.{Linked, At}
use Rattle.run_steps.proofs.Items.{straight}
use Rattle.run_steps.specs.Bodies.{Ground, Known, with'}
use Rattle.run_steps.proofs.Bodies.{frame_is, set_known, lose_known, displaced_by, constant_piece, load_piece}
use Rattle.run_steps.proofs.Jumps.{front_of, back_of, call_piece}
use Rattle.run_steps.specs.Temporaries.{nothing}
use Rattle.run_steps.specs.Reaching.{Reaches}
use Rattle.run_steps.proofs.Reaching.{reach_moved}
use Rattle.pli_headline.proofs.Statements.{Block}
use Rattle.pli_headline.proofs.CalledBegun.{without_texts, entry_regs}
use Rattle.run_steps.specs.Reach.{Family, Reach, reached}
use Rattle.run_steps.proofs.Reach.{reach_then, reach_map, reached_holds}
use Rattle.pli_headline.proofs.Scalars.{Values}

base_kept : (b : Base) (base x : ℕ) → base < memory_size → x ≡ b.at + base → sum x (word (pos 0)) ≡ b.at + base
base_kept b base x within e = let v = b.valid.1 in omega (arith, v, within, e)

-- the frame of the main procedure comes into a0
abbrev given_by : Bool → Code
given_by q = cond q [] (load_word a0 frame_register (display 0)) ++ move a0 (cond q frame_register a0) ∷ []

given_piece : (q : Bool) {links : Links} {code : List Instr} {i : ℕ} {g : Ground} {v : Services} {h t : ℕ → ℕ} (c : ℕ) (f : Family) (base : ℕ) → Reaches q 0 g base → base < memory_size → Linked links code i (given_by q) → ((b : Base) → At b i (Known g v h t without_texts b) (f b)) → Reach code c f v (c + size_of (given_by q)) v (λ b w. At b (i + size_of (given_by q)) (Known g v h t (with' 10 (λ b'. b'.at + base) without_texts) b) w)
given_piece true {g = g} {v = v} {h = h} {t = t} c f base reaches within l there =
    straight c f v v (λ b. Known g v h t (with' 10 (λ b'. b'.at + base) without_texts) b) l (omega arith) (λ b. (there b).pc)
    (λ b.
    let o = (there b).holds in
    set_known (f b) 10 _ _ (λ b'. b'.at + base) (record { reserved_stay = λ y u. refl; known_stay = λ b' y u q. q; set = λ y u. refl }) (base_kept b base ((f b).machine.registers 8) within (frame_is o.body ∙ ap (λ u. b.at + u) reaches)) o)
given_piece false {i = i} {g = g} {v = v} {h = h} {t = t} c f base reaches within l there =
    let first = load_word a0 frame_register (display 0) in
    let last = move a0 a0 ∷ [] in
    let size = size_append first last in
    let r1 = load_piece c f a0 (display 0) (g.frame + 144) (λ b. b.at + base) reaches.0 (λ b m k. reaches.1 t b m k)
    (record { reserved_stay = λ y u. refl; known_stay = λ b y u q. q; set = λ y u. refl })
    (record { reserved_stay = λ y u. refl; known_stay = λ b y u q. q; set = λ y u. refl })
    (front_of first last l) there in
    let r2 = straight (c + size_of first) (reached r1) v v (λ b. Known g v h t (with' 10 (λ b'. b'.at + base) without_texts) b) (back_of first last l) (omega arith) (λ b. (reached_holds r1 b).pc)
    (λ b.
    let o = (reached_holds r1 b).holds in
    record {
      body = record { services = o.body.services; registers = o.body.registers; bytes = o.body.bytes; memory = o.body.memory };
      regs = (base_kept b base ((reached r1 b).machine.registers 10) within o.regs.0, (o.regs.1.0, tt));
    }) in
    reach_moved (omega (arith, size)) (omega (arith, size)) (reach_then r1 r2)

-- without arguments; the place of their list isn't asked for
abbrev pub call_of : Environment → (list : ℤ) → (procedure : ℕ) → Code
call_of e list procedure =
    plus a1 frame_register list ++ (number a2 0 ++ (frame_given e 0 ++ CallTo (ProcedureEntry procedure) ∷ []))

-- where it goes on afterwards
abbrev pub call_back : (i : ℕ) → Environment → (list : ℤ) → (procedure : ℕ) → ℕ
call_back i e list procedure = i + size_of (call_of e list procedure)

pub call_entry : {e : Environment} {block : Names} {types : Types} (bl : Block e block types) (n : Values) {links : Links} {code : List Instr} {i : ℕ} {v : Services} {h t : ℕ → ℕ} (c c' : ℕ) (f : Family) (list : ℤ) (procedure entry : ℕ) → word list < 2 ^ 32 → place_of links (ProcedureEntry procedure) ≡ 4 * entry → entry ≤ most_code → c + size_of (call_of e list procedure) ≤ c' → Linked links code i (call_of e list procedure) → ((b : Base) → At b i (Known (bl.ground n) v h t nothing b) (f b)) → Reach code c f v c' v (λ b w. At b entry (Known (bl.ground n) v h t (entry_regs bl.base (λ b'. address b' (call_back i e list procedure))) b) w)
call_entry {e} bl n {links} {code} {i} {v} {h} {t} c c' f list procedure entry fits placed near paid l there =
    let g = bl.ground n in
    let list_code = plus a1 frame_register list in
    let none = number a2 0 in
    let given = frame_given e 0 in
    let call = CallTo (ProcedureEntry procedure) ∷ [] in
    let l1 = back_of list_code (none ++ (given ++ call)) l in
    let l2 = back_of none (given ++ call) l1 in
    let n1 = size_append list_code (none ++ (given ++ call)) in
    let n2 = size_append none (given ++ call) in
    let n3 = size_append given call in
    let inside = g.inside in
    let s1 = displaced_by (is_immediate list) c f (λ q d. I.Immediate Imm.Add a1 q d) frame_register list (λ b. b.at + g.frame) (Known g v h t nothing) (Known g v h t nothing) fits
    (λ b. let v' = b.valid.1 in omega (arith, v', inside))
    (λ y u. refl)
    (λ b. frame_is (there b).holds.body)
    (omega arith)
    (record {
      does = λ b j w q d k s. lose_known w 11 _ _ (record { reserved_stay = λ y u. refl; known_stay = λ b' y u o. o; set = λ y u. refl }) k;
      lost = λ b w u i' k. lose_known w 31 u i' (record { reserved_stay = λ y u'. refl; known_stay = λ b' y u' o. o; set = λ y u'. refl }) k;
    })
    (front_of list_code (none ++ (given ++ call)) l) there in
    let c1 = c + size_of list_code in
    let s2 = constant_piece c1 (reached s1) a2 (pos 0) (omega arith) (record { reserved_stay = λ y u. refl; known_stay = λ b y u o. o; set = λ y u. refl }) (front_of none (given ++ call) l1) (reached_holds s1) in
    let c2 = c1 + size_of none in
    let s3 = given_piece (0 == e.level) c2 (reached s2) bl.base (bl.reach n) bl.within (front_of given call l2) (reached_holds s2) in
    let c3 = c2 + size_of given in
    let j = i + size_of list_code + size_of none + size_of given in
    let back : j + 2 ≡ call_back i e list procedure = omega (arith, n1, n2, n3) in
    let s4 = call_piece c3 c' (reached s3) (ProcedureEntry procedure) entry (omega (arith, n1, n2, n3, paid)) placed near
    (record { reserved_stay = λ y u. refl; known_stay = λ b y u o. (o.0, (o.1.0, tt)); set = λ y u. refl })
    (back_of given call l2) (reached_holds s3) in
    reach_map (λ b w. At b entry (Known g v h t (entry_regs bl.base (λ b'. address b' (call_back i e list procedure))) b) w)
    (reach_then s1 (reach_then s2 (reach_then s3 s4)))
    (λ b w o. record {
      pc = o.pc;
      holds = record { body = o.holds.body; regs = (o.holds.regs.1.0, (o.holds.regs.1.1.0, (o.holds.regs.0 ∙ ap (address b) back, tt))) };
    })
