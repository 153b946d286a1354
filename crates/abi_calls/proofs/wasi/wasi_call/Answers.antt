use Rattle.store_model.specs.Runs.{runs_none}
use Rattle.store_model.specs.Program.{done}
use Rattle.gate_base.specs.declared.cause.Cause.TheVariants.{Exit}
use Rattle.abi_model.specs.Calls.{called_trapped}
use Rattle.abi_model.specs.declared.ends.HostEnd.TheVariants.{Trapped}
use Rattle.contexts.specs.Reached.{seen}
use Rattle.abi_model.specs.declared.table.WasiCall.TheVariants as wasi
use Rattle.abi_services.specs.Files.{fd_writes}
use Rattle.abi_calls.proofs.Hosted.{as_wasi_called, local_hosted, writing_hosted, asking_hosted}
use Rattle.abi_calls.proofs.wasi.wasi_call.Goals as goal

pub returns-in-FdWrite-clause-ends : goal.returns-in-FdWrite-clause-ends
returns-in-FdWrite-clause-ends g c =
    let p = g.S.Shared.performs in
    let nothing = g.met.S.Shared.nothing in
    let h = c.args.contexts.now in
    let at = g.G.Guest.at c.args.guest.now in
    as_wasi_called p c.args.shared.now c.args.shared.now c.args.now c.args.vm c.args.args.now at (seen h c.args.vm) h h c.wasi_fd_write.result (g.G.Guest.at c.wasi_fd_write.new.guest) c.args.logs.now c.wasi_fd_write.new.logs c.args.call wasi.FdWrite c.in-FdWrite.is
    (writing_hosted p nothing c.args.vm h (g.G.Guest.at c.wasi_fd_write.new.guest) c.args.logs.now c.requires.vm (fd_writes c.args.args.now at (seen h c.args.vm)) c.wasi_fd_write.result c.wasi_fd_write.new.logs c.args.shared.now c.wasi_fd_write.ensures.ends c.wasi_fd_write.ensures.lines)

pub returns-in-ClockTimeGet-clause-ends : goal.returns-in-ClockTimeGet-clause-ends
returns-in-ClockTimeGet-clause-ends g c =
    let p = g.S.Shared.performs in
    let nothing = g.met.S.Shared.nothing in
    let h = c.args.contexts.now in
    let at = g.G.Guest.at c.args.guest.now in
    as_wasi_called p c.args.shared.now c.args.shared.now c.args.now c.args.vm c.args.args.now at (seen h c.args.vm) h c.wasi_clock_time_get.new.contexts c.wasi_clock_time_get.result (g.G.Guest.at c.wasi_clock_time_get.new.guest) c.args.logs.now c.args.logs.now c.args.call wasi.ClockTimeGet c.in-ClockTimeGet.is
    (local_hosted p nothing c.args.vm h (g.G.Guest.at c.wasi_clock_time_get.new.guest) c.args.logs.now _ c.wasi_clock_time_get.result c.wasi_clock_time_get.new.contexts c.args.shared.now c.wasi_clock_time_get.ensures.ends)

pub returns-in-RandomGet-clause-ends : goal.returns-in-RandomGet-clause-ends
returns-in-RandomGet-clause-ends g c =
    let p = g.S.Shared.performs in
    let nothing = g.met.S.Shared.nothing in
    let h = c.args.contexts.now in
    let at = g.G.Guest.at c.args.guest.now in
    as_wasi_called p c.args.shared.now c.args.shared.now c.args.now c.args.vm c.args.args.now at (seen h c.args.vm) h c.wasi_random_get.new.contexts c.wasi_random_get.result (g.G.Guest.at c.wasi_random_get.new.guest) c.args.logs.now c.args.logs.now c.args.call wasi.RandomGet c.in-RandomGet.is
    (local_hosted p nothing c.args.vm h (g.G.Guest.at c.wasi_random_get.new.guest) c.args.logs.now _ c.wasi_random_get.result c.wasi_random_get.new.contexts c.args.shared.now c.wasi_random_get.ensures.ends)

pub returns-in-EnvironGet-clause-ends : goal.returns-in-EnvironGet-clause-ends
returns-in-EnvironGet-clause-ends g c =
    let p = g.S.Shared.performs in
    let nothing = g.met.S.Shared.nothing in
    let h = c.args.contexts.now in
    let at = g.G.Guest.at c.args.guest.now in
    as_wasi_called p c.args.shared.now c.args.shared.now c.args.now c.args.vm c.args.args.now at (seen h c.args.vm) h c.wasi_environ_get.new.contexts c.wasi_environ_get.result (g.G.Guest.at c.wasi_environ_get.new.guest) c.args.logs.now c.args.logs.now c.args.call wasi.EnvironGet c.in-EnvironGet.is
    (local_hosted p nothing c.args.vm h (g.G.Guest.at c.wasi_environ_get.new.guest) c.args.logs.now _ c.wasi_environ_get.result c.wasi_environ_get.new.contexts c.args.shared.now c.wasi_environ_get.ensures.ends)

pub returns-in-ArgsGet-clause-ends : goal.returns-in-ArgsGet-clause-ends
returns-in-ArgsGet-clause-ends g c =
    let p = g.S.Shared.performs in
    let nothing = g.met.S.Shared.nothing in
    let h = c.args.contexts.now in
    let at = g.G.Guest.at c.args.guest.now in
    as_wasi_called p c.args.shared.now c.args.shared.now c.args.now c.args.vm c.args.args.now at (seen h c.args.vm) h c.wasi_args_get.new.contexts c.wasi_args_get.result (g.G.Guest.at c.wasi_args_get.new.guest) c.args.logs.now c.args.logs.now c.args.call wasi.ArgsGet c.in-ArgsGet.is
    (local_hosted p nothing c.args.vm h (g.G.Guest.at c.wasi_args_get.new.guest) c.args.logs.now _ c.wasi_args_get.result c.wasi_args_get.new.contexts c.args.shared.now c.wasi_args_get.ensures.ends)

pub returns-in-EnvironSizesGet-clause-ends : goal.returns-in-EnvironSizesGet-clause-ends
returns-in-EnvironSizesGet-clause-ends g c =
    let p = g.S.Shared.performs in
    let nothing = g.met.S.Shared.nothing in
    let h = c.args.contexts.now in
    let at = g.G.Guest.at c.args.guest.now in
    as_wasi_called p c.args.shared.now c.args.shared.now c.args.now c.args.vm c.args.args.now at (seen h c.args.vm) h c.wasi_environ_sizes_get.new.contexts c.wasi_environ_sizes_get.result (g.G.Guest.at c.wasi_environ_sizes_get.new.guest) c.args.logs.now c.args.logs.now c.args.call wasi.EnvironSizesGet c.in-EnvironSizesGet.is
    (local_hosted p nothing c.args.vm h (g.G.Guest.at c.wasi_environ_sizes_get.new.guest) c.args.logs.now _ c.wasi_environ_sizes_get.result c.wasi_environ_sizes_get.new.contexts c.args.shared.now c.wasi_environ_sizes_get.ensures.ends)

pub returns-in-ArgsSizesGet-clause-ends : goal.returns-in-ArgsSizesGet-clause-ends
returns-in-ArgsSizesGet-clause-ends g c =
    let p = g.S.Shared.performs in
    let nothing = g.met.S.Shared.nothing in
    let h = c.args.contexts.now in
    let at = g.G.Guest.at c.args.guest.now in
    as_wasi_called p c.args.shared.now c.args.shared.now c.args.now c.args.vm c.args.args.now at (seen h c.args.vm) h c.wasi_args_sizes_get.new.contexts c.wasi_args_sizes_get.result (g.G.Guest.at c.wasi_args_sizes_get.new.guest) c.args.logs.now c.args.logs.now c.args.call wasi.ArgsSizesGet c.in-ArgsSizesGet.is
    (local_hosted p nothing c.args.vm h (g.G.Guest.at c.wasi_args_sizes_get.new.guest) c.args.logs.now _ c.wasi_args_sizes_get.result c.wasi_args_sizes_get.new.contexts c.args.shared.now c.wasi_args_sizes_get.ensures.ends)

pub returns-in-ProcExit-clause-ends : goal.returns-in-ProcExit-clause-ends
returns-in-ProcExit-clause-ends g c =
    let p = g.S.Shared.performs in
    let h = c.args.contexts.now in
    let at = g.G.Guest.at c.args.guest.now in
    as_wasi_called p c.args.shared.now c.args.shared.now c.args.now c.args.vm c.args.args.now at (seen h c.args.vm) h h (Trapped Exit) at c.args.logs.now c.args.logs.now c.args.call wasi.ProcExit c.in-ProcExit.is
    (asking_hosted p g.met.S.Shared.nothing c.args.vm h at c.args.logs.now c.requires.vm (done (called_trapped Exit at.fuel)) (Trapped Exit) c.args.shared.now c.args.shared.now
    (runs_none p g.met.S.Shared.nothing c.args.shared.now (done (called_trapped Exit at.fuel))))
