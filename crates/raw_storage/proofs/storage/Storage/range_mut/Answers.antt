use Rattle.std.proofs.Common.{◌≡◌, ℕ, ◌+◌, ◌-◌, ◌≤◌, List, length, take, drop, sym, refl, ap, ◌∙◌, arith}
use Rattle.raw_storage.specs.Parts.{Parted, with_bytes, written_from, range}
use Rattle.raw_storage.proofs.Writing.{over_whole}
use Rattle.raw_storage.proofs.storage.Storage.range_mut.Goals as goal

pub returns : goal.returns
returns c =
    let v = c.self.inside.bytes in
    let l : length v.items ≡ v.len = sym v.ok.0 in
    let m : length v.items ≡ length c.args.self.now.bytes = ap (λ (s : Parted). length s.bytes) c.self.view_is in
    let h : c.args.at ≤ v.len = omega (arith, l, m) in
    let k : c.args.at + c.args.len - c.args.at ≡ c.args.len = omega arith in (
      (
        refl,
        λ w.
            ap (λ (b : List ℕ). let s : Parted = record { bytes = b; stack_at = c.self.inside.stack_at; heap_at = c.self.inside.heap_at } in s) (over_whole c.args.at v.len w v.items h l)
            ∙ ap (λ (s : Parted). with_bytes (written_from c.args.at w s.bytes) s) c.self.view_is,
      ),
      record {
        writes_back = tt;
        value =
            c.slice_mut.ensures.value
            ∙ (ap (λ n. take n (drop c.args.at v.items)) k ∙ ap (λ (s : Parted). range c.args.at c.args.len s.bytes) c.self.view_is);
      },
    )
