-- Text constants: their bytes stand in the static data, and service 20 pushes them.
use Rattle.std.proofs.Common.{◌≡◌, ℕ, suc, ◌+◌, ◌^◌, ◌<◌, ◌≤◌, List, [], ◌∷◌, ◌++◌, length, Some, None, true, refl, sym, ap, ◌∙◌, subst, arith, lit<}
use Rattle.std.specs.Prelude.{pos, cond, ◌&&◌, take, drop, slice_index}
use Rattle.std.proofs.lemmas.Bool.{le-leb}
use Rattle.std.proofs.lemmas.List.{get_or-drop, length-drop}
use Rattle.rv_meaning.specs.declared.instr.Instr.{Instr}
use Rattle.rv_meaning.specs.declared.instr.Instr.TheVariants as I
use Rattle.rv_meaning.specs.Machine.{memory_size}
use Rattle.pli_typing.specs.Signatures.{Character}
use Rattle.pli_meaning.specs.Control.{Flow}
use Rattle.pli_serving.specs.Bytes.{bytes_at}
use Rattle.pli_serving.specs.ServiceState.{Services, TextEntry}
use Rattle.pli_serving.specs.Answers.{Done}
use Rattle.pli_serving.specs.Outcomes.{or_bad, bad_unless, pushed}
use Rattle.pli_serving.specs.TextServices as X
use Rattle.pli_coding.specs.Registers.{a0, a1, a2, a7}
use Rattle.pli_coding.specs.Assembly.{ConstantBytes, DataPlace, OffsetOf, Plain, size_of}
use Rattle.pli_coding.specs.Instructions.{small, number}
use Rattle.pli_coding.specs.Expressions.{constant_pushed}
use Rattle.pli_coding.specs.Linking.{Links, place_of}
use Rattle.run_steps.specs.Engine.{Base, address, call_at}
use Rattle.run_steps.proofs.Linking.{size_append}
use Rattle.run_steps.specs.Items.{Linked, At}
use Rattle.run_steps.proofs.Items.{straight}
use Rattle.run_steps.specs.Bodies.{Ground, Known}
use Rattle.run_steps.proofs.Bodies.{zero_is, constant_piece}
use Rattle.run_steps.proofs.Jumps.{front_of, back_of}
use Rattle.run_steps.specs.Temporaries.{nothing}
use Rattle.run_steps.specs.Calls.{Calling}
use Rattle.run_steps.proofs.Calls.{called, call_done}
use Rattle.pli_headline.proofs.Raising.{small_is}
use Rattle.pli_headline.proofs.Operators.{valued}
use Rattle.pli_headline.proofs.Acts.{word_is, word_fits}
use Rattle.run_steps.specs.DataNamed.{BytesStand}
use Rattle.pli_headline.proofs.FormatsRead.{is_data_there}
use Rattle.run_steps.specs.Reach.{Family, Aims, Comes, Closed}
use Rattle.run_steps.proofs.Reach.{onward}

-- ---- bytes of memory

front_bytes : (m bytes : List ℕ) → length bytes ≤ length m → ((k : ℕ) → k < length bytes → slice_index m k ≡ slice_index bytes k) → take (length bytes) m ≡ bytes
front_bytes m [] h same = refl
front_bytes [] (b ∷ bytes) h same = absurd (omega (arith, h))
front_bytes (a ∷ m) (b ∷ bytes) h same =
    ap (λ u. u ∷ take (length bytes) m) (same 0 (omega arith))
    ∙ ap (λ u. b ∷ u) (front_bytes m bytes (omega (arith, h)) (λ k below. same (suc k) (omega (arith, below))))

pub bytes_there : (code : List Instr) (m : List ℕ) (at : ℕ) (bytes : List ℕ) → length m ≡ memory_size → BytesStand code m at bytes → bytes_at (length bytes) at m ≡ bytes
bytes_there code m at bytes size stands =
    let inside = stands.inside in
    let rest = length-drop at m in
    front_bytes (drop at m) bytes (omega (arith, inside, size, rest)) (λ k below. get_or-drop at m k 0 ∙ stands.bytes_are k below)

-- ---- 20: the text is pushed

push_answer : (code : List Instr) (v : Services) (m : List ℕ) (at : ℕ) (bytes : List ℕ) → length bytes ≤ 1024 → length m ≡ memory_size → BytesStand code m at bytes → X.push_served (call_at code v m) at (length bytes) 0 ≡ Done (pushed (TextEntry bytes) v) m at (length bytes)
push_answer code v m at bytes short size stands =
    let c = call_at code v m in
    let n = length bytes in
    let inside = stands.inside in
    ap (λ u. or_bad (cond u (Some (Character n)) None) (X.text_pushed c at n)) (le-leb n 1024 short)
    ∙ ap (λ u. bad_unless (u && true) (Done (pushed (TextEntry (bytes_at n at m)) v) m at n)) (is_data_there c.layout at n stands.behind_code (omega (arith, inside)))
    ∙ ap (λ u. Done (pushed (TextEntry u) v) m at n) (bytes_there code m at bytes size stands)

pub constant_text : {X : Type 0} {links : Links} {code : List Instr} {i : ℕ} {g : Ground} {v : Services} {h t : ℕ → ℕ} {aims : Aims X} {flow : Flow X} (closed : Closed code aims) (f : Family) (bytes : List ℕ) → length bytes ≤ 1024 → ((b : Base) (m : List ℕ) → g.memory t b m → BytesStand code m (place_of links (DataPlace (ConstantBytes bytes))) bytes) → Linked links code i (constant_pushed bytes) → ((b : Base) → At b i (Known g v h t nothing b) (f b)) → ((f' : Family) → ((b : Base) → At b (i + size_of (constant_pushed bytes)) (Known g (pushed (TextEntry bytes) v) h t nothing b) (f' b)) → Comes code (i + size_of (constant_pushed bytes)) f' (pushed (TextEntry bytes) v) aims flow) → Comes code i f v aims flow
constant_text {links = links} {code = code} {i = i} {g = g} {v = v} {h = h} {t = t} {aims = aims} {flow = flow} closed f bytes short stands l at next' =
    let place = place_of links (DataPlace (ConstantBytes bytes)) in
    let n = length bytes in
    let v' = pushed (TextEntry bytes) v in
    let first = OffsetOf a0 (DataPlace (ConstantBytes bytes)) ∷ [] in
    let second = number a1 n in
    let third = small a2 0 ∷ small a7 20 ∷ [] in
    let last = Plain I.Ecall ∷ [] in
    let l1 = back_of first (second ++ (third ++ last)) l in
    let l2 = back_of second (third ++ last) l1 in
    let e1 = size_append second (third ++ last) in
    let few : n < 2 ^ 31 = omega (arith, short) in
    let r1 = straight i f v v (λ b. Known g v h t (valued place) b) (front_of first (second ++ (third ++ last)) l) (omega arith) (λ b. (at b).pc)
    (λ b. let o = (at b).holds in let inside = (stands b (f b).machine.memory o.body.memory).inside in (
      omega (arith, inside),
      refl,
      record {
        body = record { services = o.body.services; registers = o.body.registers; bytes = o.body.bytes; memory = o.body.memory };
        regs = (refl, tt);
      },
    )) in
    onward closed r1 (λ f1 at1.
    onward closed (constant_piece (i + 2) f1 a1 (pos n) (word_fits n few) (record { reserved_stay = λ y u. refl; known_stay = λ b y u q. q; set = λ y u. refl }) (front_of second (third ++ last) l1) at1)
    (λ f2 at2.
    let r3 = straight (i + 2 + size_of second) f2 v v (λ b. Known g v h t (λ b'. (10, place) ∷ (11, n) ∷ (12, 0) ∷ (17, 20) ∷ []) b) (front_of third last l2) (omega arith) (λ b. (at2 b).pc)
    (λ b. let o = (at2 b).holds in let z = zero_is o.body in record {
      body = record { services = o.body.services; registers = o.body.registers; bytes = o.body.bytes; memory = o.body.memory };
      regs = (o.regs.1.0, (o.regs.0 ∙ word_is n few, (small_is _ 0 z (lit< tt), (small_is _ 20 z (lit< tt), tt))));
    }) in
    onward closed r3 (λ f3 at3.
    let calling : Calling _ code (i + 2 + size_of second + 2) f3 (λ b. Done v' (f3 b).machine.memory place n) = record {
      linked = back_of third last l2;
      pc = λ b. (at3 b).pc;
      answers = λ b.
          let o = (at3 b).holds in
          called code (f3 b) v 20 place n 0 _ _ (λ c x0 x1 x2 x3 x4. X.push_served c x0 x1 x2) o.body.services o.regs.1.1.1.0 o.regs.0 o.regs.1.0 o.regs.1.1.0 refl refl (λ c u. refl)
          ∙ push_answer code v (f3 b).machine.memory place bytes short o.body.bytes (stands b (f3 b).machine.memory o.body.memory);
    } in
    let q = call_done (i + 2 + size_of second + 2) f3 v v' (λ b. (f3 b).machine.memory) (λ b. place) (λ b. n) (λ b. Known g v' h t nothing b) (omega arith) calling
    (λ b. let o = (at3 b).holds.body in record { body = record { services = refl; registers = o.registers; bytes = o.bytes; memory = o.memory }; regs = tt }) in
    onward closed q (λ f4 at4.
    let e : i + 2 + size_of second + 2 + 1 ≡ i + size_of (constant_pushed bytes) = omega (arith, e1) in
    subst (λ u. Comes code u f4 v' aims flow) (sym e)
    (next' f4 (λ b. record { pc = (at4 b).pc ∙ ap (address b) e; holds = (at4 b).holds }))))))
