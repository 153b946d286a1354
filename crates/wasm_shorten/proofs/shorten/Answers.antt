use Rattle.std.proofs.Common.{ℕ, ◌<◌, length, get_or, arith}
use Rattle.wasm_syntax.specs.Numbers.{AreBytes}
use Rattle.wasm_writer.specs.Written.{HasSpelling}
use Rattle.wasm_shorten.proofs.Bytes.{bytes_of_items}
use Rattle.wasm_shorten.proofs.shorten.Goals as goal

pub write_module-requires : goal.write_module-requires
write_module-requires c =
    let are : AreBytes c.args.b.now = bytes_of_items c.args.b.now (λ k lt. let h = c.type_inv.b k in omega (arith, h)) in
    record { bytes = c.args.b.now; are_bytes = are; spelled = c.in_ok-m.ensures.read }
