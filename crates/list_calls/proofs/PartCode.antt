-- The code that makes the copy of an argument at any place of a list, in pieces, and that of all of them.
use Rattle.std.proofs.Common.{◌≡◌, ℕ, suc, ◌+◌, ◌*◌, ◌<◌, ◌≤◌, List, [], ◌∷◌, ◌++◌, length, true, refl}
use Rattle.std.proofs.Common.{ap, ◌∙◌, arith}
use Rattle.std.proofs.lemmas.Bool.{le-leb}
use Rattle.std.proofs.lemmas.List.{append-nil, append_assoc}
use Rattle.std.specs.Prelude.{ℤ, cond, pos}
use Rattle.rv_meaning.specs.declared.instr.BranchTest.TheVariants as Test
use Rattle.rv_meaning.specs.declared.instr.ImmediateOp.TheVariants as Imm
use Rattle.rv_meaning.specs.declared.instr.Instr.TheVariants as I
use Rattle.rv_meaning.specs.declared.instr.LoadKind.TheVariants as Load
use Rattle.rv_meaning.specs.declared.instr.Register.{Register}
use Rattle.rv_meaning.specs.declared.instr.StoreKind.TheVariants as Store
use Rattle.rv_meaning.specs.Words.{word}
use Rattle.pli_typing.specs.TypedTree as Y
use Rattle.pli_coding.specs.Assembly.{Code, Plain}
use Rattle.pli_coding.specs.Entries.{Copied, arguments_copied, copies_made, copy_made, if_copied, texts_filled}
use Rattle.pli_coding.specs.Environments.{Environment}
use Rattle.pli_coding.specs.Frames.{argument_at, constant_size}
use Rattle.pli_coding.specs.Instructions.{add, immediate, is_immediate, load_word, move, number, plus, skip_where, small}
use Rattle.pli_coding.specs.Instructions.{store_word, subtract}
use Rattle.pli_coding.specs.Linking.{lower_part, upper_part}
use Rattle.pli_coding.specs.Locating.{table_number}
use Rattle.pli_coding.specs.Registers.{a0, a1, a2, a3, a4, a7, far_register, frame_register, u1, u2, u4, u5}
use Rattle.pli_coding.specs.Registers.{zero_register}
use Rattle.argument_runs.specs.Parameters.{most_parameters}
use Rattle.argument_runs.proofs.CopyCode.{filling_code}
use Rattle.list_calls.specs.Lists.{AreSigned, AreTaken, Parameter, copied_from, indices_of}

-- ---- near places

near_load : (r s : Register) (z : ℤ) → is_immediate z ≡ true → load_word r s z ≡ Plain (I.Load Load.Word r s z) ∷ []
near_load r s z e =
    ap (λ q. cond q (Plain (I.Load Load.Word r s z) ∷ [])
    (Plain (I.LoadUpper far_register (upper_part (word z)))
    ∷ add far_register far_register s ∷ Plain (I.Load Load.Word r far_register (lower_part (word z))) ∷ [])) e

near_store : (r s : Register) (z : ℤ) → is_immediate z ≡ true →
    store_word r s z ≡ Plain (I.Store Store.Word r s z) ∷ []
near_store r s z e =
    ap (λ q. cond q (Plain (I.Store Store.Word r s z) ∷ [])
    (Plain (I.LoadUpper far_register (upper_part (word z)))
    ∷ add far_register far_register r ∷ Plain (I.Store Store.Word far_register s (lower_part (word z))) ∷ [])) e

near_plus : (r s : Register) (z : ℤ) → is_immediate z ≡ true → plus r s z ≡ immediate Imm.Add r s z ∷ []
near_plus r s z e =
    ap (λ q. cond q (immediate Imm.Add r s z ∷ [])
    (Plain (I.LoadUpper far_register (upper_part (word z)))
    ∷ add far_register far_register s ∷ Plain (I.Immediate Imm.Add r far_register (lower_part (word z))) ∷ [])) e

pub near_place : (n j : ℕ) → n < most_parameters → j < 6 → is_immediate (argument_at n j) ≡ true
near_place n j near few = le-leb (24 * n + 4 * j) 2047 (omega (arith, near, few))

-- ---- one copy

-- where the list says that it is a copy
abbrev pub flag_code : (n : ℕ) → Code
flag_code n = Plain (I.Load Load.Word u4 u5 (argument_at n 5)) ∷ []

-- the signature's number behind where the name will stand, the lower stack, the value, and what service 7 is given
abbrev pub asking_code : (n : ℕ) → Code
asking_code n =
    small u2 16
    ∷ Plain (I.Store Store.Word u5 a1 (argument_at n 4))
    ∷ (load_word u1 frame_register (pos 40)
    ++ (subtract u1 u1 u2
    ∷ (store_word frame_register u1 (pos 40)
    ++ (Plain (I.Load Load.Word u4 u5 (argument_at n 0))
    ∷ (load_word a0 frame_register (pos 44)
    ++ (immediate Imm.Add a0 a0 (argument_at n 0)
    ∷ small a2 0 ∷ move a3 u1 ∷ small a4 2 ∷ small a7 7 ∷ []))))))

abbrev pub making_code : (n signature : ℕ) → Code
making_code n signature = number a1 signature ++ (asking_code n ++ (Plain I.Ecall ∷ filling_code))

abbrev pub copy_code : (n signature : ℕ) → Code
copy_code n signature = flag_code n ++ skip_where Test.Equal u4 zero_register (making_code n signature)

abbrev one_of : (n : ℕ) → Parameter → Copied
one_of n x = record { n = n; declared = x.declared; type = Y.FixedLeaf 31 }

coded_one :
    (e : Environment) (n : ℕ) (x : Parameter) → n < most_parameters → table_number e x.declared ≡ x.number →
    x.declared.leaves ≡ record { type = Y.FixedLeaf 31; bounds = []; initial = [] } ∷ [] →
    if_copied (one_of n x) (copy_made e (one_of n x)) ≡ copy_code n x.number
coded_one e n x near number' leaves =
    ap (λ ls. pieces (number a1 (table_number e x.declared)) (number u2 (sized ls)) (load_word u4 u5 (argument_at n 5))
    (store_word u5 a1 (argument_at n 4)) (load_word u4 u5 (argument_at n 0)) (plus a0 a0 (argument_at n 0))) leaves
    ∙ ap (λ m. pieces (number a1 m) (small u2 16 ∷ []) (load_word u4 u5 (argument_at n 5))
    (store_word u5 a1 (argument_at n 4)) (load_word u4 u5 (argument_at n 0)) (plus a0 a0 (argument_at n 0))) number'
    ∙ ap (λ u. pieces signed (small u2 16 ∷ []) u (store_word u5 a1 (argument_at n 4))
    (load_word u4 u5 (argument_at n 0)) (plus a0 a0 (argument_at n 0)))
    (near_load u4 u5 (argument_at n 5) (near_place n 5 near (omega arith)))
    ∙ ap (λ u. pieces signed (small u2 16 ∷ []) (flag_code n) u (load_word u4 u5 (argument_at n 0))
    (plus a0 a0 (argument_at n 0))) (near_store u5 a1 (argument_at n 4) (near_place n 4 near (omega arith)))
    ∙ ap (λ u. pieces signed (small u2 16 ∷ []) (flag_code n) stored u (plus a0 a0 (argument_at n 0)))
    (near_load u4 u5 (argument_at n 0) (near_place n 0 near (omega arith)))
    ∙ ap (λ u. pieces signed (small u2 16 ∷ []) (flag_code n) stored loaded u)
    (near_plus a0 a0 (argument_at n 0) (near_place n 0 near (omega arith)))
    ∙ ap (λ m. flag_code n ++ skip_where Test.Equal u4 zero_register m)
    (append_assoc (signed ++ (small u2 16 ∷ [])) (stored ++ lower) last
    ∙ append_assoc signed (small u2 16 ∷ []) ((stored ++ lower) ++ last))
  where
    signed : Code
    signed = number a1 x.number

    stored : Code
    stored = Plain (I.Store Store.Word u5 a1 (argument_at n 4)) ∷ []

    loaded : Code
    loaded = Plain (I.Load Load.Word u4 u5 (argument_at n 0)) ∷ []

    lower : Code
    lower = load_word u1 frame_register (pos 40)
        ++ (subtract u1 u1 u2 ∷ store_word frame_register u1 (pos 40))

    asked : Code → Code
    asked offset' = (load_word a0 frame_register (pos 44)
        ++ (offset' ++ (small a2 0 ∷ move a3 u1 ∷ small a4 2 ∷ small a7 7 ∷ Plain I.Ecall ∷ [])))
        ++ filling_code

    last : Code
    last = loaded ++ asked (immediate Imm.Add a0 a0 (argument_at n 0) ∷ [])

    pieces : (signed size flag sign' value' offset' : Code) → Code
    pieces signed size flag sign' value' offset' =
        flag ++ skip_where Test.Equal u4 zero_register
        (((signed ++ size) ++ (sign' ++ lower)) ++ (value' ++ asked offset'))

    sized : List Y.Leaf → ℕ
    sized ls = constant_size e.parts (record x.declared { leaves = ls })

-- ---- all of them

abbrev pub copies_from : (n : ℕ) → List Parameter → Code
copies_from n [] = []
copies_from n (x ∷ xs) = copy_code n x.number ++ copies_from (suc n) xs

made_from :
    (e : Environment) (n : ℕ) (xs : List Parameter) → n + length xs ≤ most_parameters → AreSigned e xs →
    copies_made e (copied_from n xs) ≡ copies_from n xs
made_from e n [] few signed = refl
made_from e n (x ∷ xs) few signed =
    ap (λ u. u ++ copies_made e (copied_from (suc n) xs)) (coded_one e n x (omega (arith, few)) signed.0 signed.1)
    ∙ ap (λ u. copy_code n x.number ++ u) (made_from e (suc n) xs (omega (arith, few)) signed.2)

none_filled : (n : ℕ) (xs : List Parameter) → texts_filled (copied_from n xs) ≡ []
none_filled n [] = refl
none_filled n (x ∷ xs) = append-nil (texts_filled (copied_from (suc n) xs)) ∙ none_filled (suc n) xs

pub coded :
    (e : Environment) (xs : List Parameter) → length xs ≤ most_parameters → AreTaken e xs →
    arguments_copied e (indices_of xs) ≡ copies_from 0 xs
coded e xs few taken =
    ap (λ cs. copies_made e cs ++ texts_filled cs) taken.copies
    ∙ ap (λ u. copies_made e (copied_from 0 xs) ++ u) (none_filled 0 xs)
    ∙ append-nil (copies_made e (copied_from 0 xs))
    ∙ made_from e 0 xs (omega (arith, few)) taken.signed
