-- The code that makes the copy of an argument, in pieces.
use Rattle.std.proofs.Common.{◌≡◌, ℕ, ◌+◌, List, [], ◌∷◌, ◌++◌, ap, ◌∙◌}
use Rattle.std.proofs.lemmas.List.{append-nil, append_assoc}
use Rattle.std.specs.Prelude.{pos}
use Rattle.rv_meaning.specs.declared.instr.BranchTest.TheVariants as Test
use Rattle.rv_meaning.specs.declared.instr.Instr.TheVariants as I
use Rattle.pli_typing.specs.TypedTree as Y
use Rattle.pli_coding.specs.Assembly.{BaseIn, Code, Plain}
use Rattle.pli_coding.specs.Entries.{Copied, arguments_copied, copies_made, copy_made, texts_filled}
use Rattle.pli_coding.specs.Environments.{Environment}
use Rattle.pli_coding.specs.Frames.{constant_size}
use Rattle.pli_coding.specs.Instructions.{add, load_word, move, number, plus, skip_where, small, store_word, subtract}
use Rattle.pli_coding.specs.Locating.{table_number}
use Rattle.pli_coding.specs.Registers.{a0, a1, a2, a3, a4, a7, frame_register, u1, u2, u4, u5, zero_register}
use Rattle.argument_runs.specs.Copies.{Copy, IsCopied}

-- where the list says that it is a copy
abbrev pub flag_code : Code
flag_code = load_word u4 u5 (pos 20)

-- the signature's number behind where the name will stand, the lower stack, the value, and what service 7 is given
abbrev pub asking_code : Code
asking_code =
    small u2 16
    ∷ (store_word u5 a1 (pos 16)
    ++ (load_word u1 frame_register (pos 40)
    ++ (subtract u1 u1 u2
    ∷ (store_word frame_register u1 (pos 40)
    ++ (load_word u4 u5 (pos 0)
    ++ (load_word a0 frame_register (pos 44)
    ++ (plus a0 a0 (pos 0) ++ (small a2 0 ∷ move a3 u1 ∷ small a4 2 ∷ small a7 7 ∷ []))))))))

-- the value goes into the data
abbrev pub filling_code : Code
filling_code = BaseIn a0 ∷ add a0 a0 u1 ∷ store_word a0 u4 (pos 0)

abbrev pub making_code : (signature : ℕ) → Code
making_code n = number a1 n ++ (asking_code ++ (Plain I.Ecall ∷ filling_code))

abbrev pub copy_code : (signature : ℕ) → Code
copy_code n = flag_code ++ skip_where Test.Equal u4 zero_register (making_code n)

pub coded : (e : Environment) (parameters : List ℕ) (d : Y.DeclaredVariable) (x : Copy) → IsCopied e parameters d x →
    arguments_copied e parameters ≡ copy_code x.number
coded e parameters d x h =
    let c : Copied = record { n = 0; declared = d; type = Y.FixedLeaf 31 } in
    ap (λ cs. copies_made e cs ++ texts_filled cs) h.copies
    ∙ append-nil _
    ∙ append-nil _
    ∙ ap (λ m. flag_code ++ skip_where Test.Equal u4 zero_register m) made'
  where
    signed : Code
    signed = number a1 (table_number e d)

    rest : Code
    rest = store_word u5 a1 (pos 16)
        ++ (load_word u1 frame_register (pos 40) ++ (subtract u1 u1 u2 ∷ store_word frame_register u1 (pos 40)))

    made' : copy_made e (record { n = 0; declared = d; type = Y.FixedLeaf 31 }) ≡ making_code x.number
    made' =
        ap (λ ls. ((signed ++ number u2 (sized ls)) ++ rest) ++ last) h.leaves
        ∙ append_assoc (signed ++ (small u2 16 ∷ [])) rest last
        ∙ append_assoc signed (small u2 16 ∷ []) (rest ++ last)
        ∙ ap (λ n. number a1 n ++ (asking_code ++ (Plain I.Ecall ∷ filling_code))) h.number
      where
        last : Code
        last = load_word u4 u5 (pos 0)
            ++ ((load_word a0 frame_register (pos 44)
            ++ (plus a0 a0 (pos 0) ++ (small a2 0 ∷ move a3 u1 ∷ small a4 2 ∷ small a7 7 ∷ Plain I.Ecall ∷ [])))
            ++ filling_code)

        sized : List Y.Leaf → ℕ
        sized ls = constant_size e.parts (record d { leaves = ls })
