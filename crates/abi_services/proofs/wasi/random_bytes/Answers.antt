use Rattle.std.proofs.Common.{◌≡◌, ◌<◌, ◌^◌, ◌%◌, drop, length, ap, sym, ◌∙◌, rules}
use Rattle.std.proofs.lemmas.List.{take_at}
use Rattle.rand_chacha.specs.ChaCha.{ChaCha}
use Rattle.abi_services.specs.Wasi.{random_bytes}
use Rattle.abi_services.proofs.Words.{filled, random_length}
use Rattle.abi_services.proofs.wasi.random_bytes.Goals as goal

pub returns-clause-bytes : goal.returns-clause-bytes
returns-clause-bytes c =
    let near : c.args.place < 2 ^ 64 = search rules in
    let filled_bytes : c.fill_bytes_via_u32.new.dst ≡ random_bytes c.args.len c.args.seed c.args.place =
    filled c.args.seed c.args.place near c.args.len (length c.as_mut_slice.result.now) c.set_word_pos.new.self c.fill_bytes_via_u32.new.rng c.fill_bytes_via_u32.new.dst c.requires
    (c.set_word_pos.ensures ∙ ap (λ (g : ChaCha). record g { word_pos = c.args.place % 2 ^ 68 }) c.from_seed-rng.ensures)
    (c.as_mut_slice.ensures.len ∙ c.in_ok-bytes.ensures.len) c.fill_bytes_via_u32.ensures in
    let whole : length c.fill_bytes_via_u32.new.dst ≡ c.in_ok-bytes.bytes.len = ap length filled_bytes ∙ random_length c.args.len c.args.seed c.args.place ∙ sym c.in_ok-bytes.ensures.len in
    c.from_vec.ensures
    ∙ take_at c.fill_bytes_via_u32.new.dst (drop (length c.fill_bytes_via_u32.new.dst) c.in_ok-bytes.bytes.items) c.in_ok-bytes.bytes.len whole
    ∙ filled_bytes
