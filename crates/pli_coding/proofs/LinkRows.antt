-- Code at its places, computed: no instruction holds the base.
use Rattle.std.proofs.Common.{◌≡◌, pos, negsuc, [], ◌∷◌, map, refl}
use Rattle.rv_meaning.specs.declared.instr.Instr.TheVariants as I
use Rattle.rv_meaning.specs.declared.instr.ImmediateOp.TheVariants as Imm
use Rattle.pli_coding.specs.Registers as R
use Rattle.pli_coding.specs.Assembly.{BaseIn, OffsetAhead}
use Rattle.pli_coding.specs.Linking.{Links, linked}

abbrev nothing_marked : Links
nothing_marked = record { marks = []; data' = [] }

-- it is what lies so far below the place that asks
base_is_counted_from_its_place :
    map (λ at. linked nothing_marked at (BaseIn R.a0 ∷ [])) (0 ∷ 40 ∷ 4096 ∷ [])
    ≡ ((I.AddUpperToPc R.a0 0 ∷ I.Immediate Imm.Add R.a0 R.a0 (pos 0) ∷ [])
    ∷ (I.AddUpperToPc R.a0 0 ∷ I.Immediate Imm.Add R.a0 R.a0 (negsuc 39) ∷ [])
    ∷ (I.AddUpperToPc R.a0 1048575 ∷ I.Immediate Imm.Add R.a0 R.a0 (pos 0) ∷ [])
    ∷ [])
base_is_counted_from_its_place = refl

-- distances are the same at each base
distance_holds_no_base :
    linked nothing_marked 40 (OffsetAhead R.a1 3 ∷ [])
    ≡ (I.LoadUpper R.a1 0 ∷ I.Immediate Imm.Add R.a1 R.a1 (pos 60) ∷ [])
distance_holds_no_base = refl
