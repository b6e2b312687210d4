use Rattle.std.proofs.Common.{◌≡◌, ◌+◌, ◌-◌, ◌∙◌, ap, arith, drop, length, sym, subst, take}
use Rattle.area_heap.specs.Answers.{bytes_or}
use Rattle.pli_serving.specs.Values.{generation_bytes}
use Rattle.pli_storage.specs.Areas.{bytes_of}
use Rattle.pli_allocation.specs.Placing.{IsWithin, bytes_placed, placing}
use Rattle.pli_allocation.proofs.Placements.{placed_at}
use Rattle.pli_allocation.proofs.placing.place_at.Goals as goal

pub returns-clause-memory : goal.returns-clause-memory
returns-clause-memory g c = λ g' i.
    let k = g.K.AreaKeeper.keeper in
    let m = c.args.memory.now in
    let start = c.reach-start.result.0 in
    let count = c.reach-start.result.1 in
    let n : start + count - start ≡ count = omega arith in
    let part : take (start + count - start) (drop start m) ≡ bytes_of k c.args.place m = ap (λ n. take n (drop start m)) n ∙ c.reach-start.ensures.bytes in
    let slice : c.place_in.new.bytes ≡ bytes_or (bytes_of k c.args.place m) (bytes_placed k (generation_bytes g') (placing k c.args.signature g' (bytes_of k c.args.place m))) =
    c.place_in.ensures.bytes g' i ∙ ap (λ xs. bytes_or xs (bytes_placed k (generation_bytes g') (placing k c.args.signature g' xs))) part in
    let within = subst (λ xs. IsWithin k (generation_bytes g') (length xs) (placing k c.args.signature g' xs)) part (c.place_in.ensures.within g' i) in
    placed_at k m c.place_in.new.bytes (bytes_of k c.args.place m) (generation_bytes g') start count (start + count - start) c.args.place.at (placing k c.args.signature g' (bytes_of k c.args.place m)) c.reach-start.ensures.inside n (c.place_in.auto.bytes ∙ ap length part) c.reach-start.ensures.bytes c.reach-start.ensures.at slice within
