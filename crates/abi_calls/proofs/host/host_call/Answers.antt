use Rattle.contexts.specs.Reached.{seen}
use Rattle.abi_model.specs.declared.table.HostCall.TheVariants as call
use Rattle.abi_model.specs.Table.{row_of}
use Rattle.abi_model.specs.Writing.{writes}
use Rattle.abi_services.specs.Logging.{own_log}
use Rattle.abi_calls.proofs.Hosted.{as_called, local_hosted, writing_hosted, asking_hosted}
use Rattle.abi_calls.proofs.host.host_call.Goals as goal

pub returns-in-Log-clause-ends : goal.returns-in-Log-clause-ends
returns-in-Log-clause-ends g c =
    let p = g.S.Shared.performs in
    let nothing = g.met.S.Shared.nothing in
    let h = c.args.contexts.now in
    let at = g.G.Guest.at c.args.guest.now in
    as_called p c.args.shared.now c.args.shared.now c.args.now c.args.vm c.args.args.now at (seen h c.args.vm) h h c.proxy_log.result (g.G.Guest.at c.proxy_log.new.guest) c.args.logs.now c.proxy_log.new.logs c.args.call call.Log c.in-Log.is
    (writing_hosted p nothing c.args.vm h (g.G.Guest.at c.proxy_log.new.guest) c.args.logs.now c.requires.vm (writes 6 (row_of call.Log) own_log c.args.args.now at (seen h c.args.vm)) c.proxy_log.result c.proxy_log.new.logs c.args.shared.now c.proxy_log.ensures.ends c.proxy_log.ensures.lines)

pub returns-in-GetLogLevel-clause-ends : goal.returns-in-GetLogLevel-clause-ends
returns-in-GetLogLevel-clause-ends g c =
    let p = g.S.Shared.performs in
    let nothing = g.met.S.Shared.nothing in
    let h = c.args.contexts.now in
    let at = g.G.Guest.at c.args.guest.now in
    as_called p c.args.shared.now c.args.shared.now c.args.now c.args.vm c.args.args.now at (seen h c.args.vm) h c.proxy_get_log_level.new.contexts c.proxy_get_log_level.result (g.G.Guest.at c.proxy_get_log_level.new.guest) c.args.logs.now c.args.logs.now c.args.call call.GetLogLevel c.in-GetLogLevel.is
    (local_hosted p nothing c.args.vm h (g.G.Guest.at c.proxy_get_log_level.new.guest) c.args.logs.now _ c.proxy_get_log_level.result c.proxy_get_log_level.new.contexts c.args.shared.now c.proxy_get_log_level.ensures.ends)

pub returns-in-GetCurrentTimeNanoseconds-clause-ends : goal.returns-in-GetCurrentTimeNanoseconds-clause-ends
returns-in-GetCurrentTimeNanoseconds-clause-ends g c =
    let p = g.S.Shared.performs in
    let nothing = g.met.S.Shared.nothing in
    let h = c.args.contexts.now in
    let at = g.G.Guest.at c.args.guest.now in
    as_called p c.args.shared.now c.args.shared.now c.args.now c.args.vm c.args.args.now at (seen h c.args.vm) h c.proxy_get_current_time_nanoseconds.new.contexts c.proxy_get_current_time_nanoseconds.result (g.G.Guest.at c.proxy_get_current_time_nanoseconds.new.guest) c.args.logs.now c.args.logs.now c.args.call call.GetCurrentTimeNanoseconds c.in-GetCurrentTimeNanoseconds.is
    (local_hosted p nothing c.args.vm h (g.G.Guest.at c.proxy_get_current_time_nanoseconds.new.guest) c.args.logs.now _ c.proxy_get_current_time_nanoseconds.result c.proxy_get_current_time_nanoseconds.new.contexts c.args.shared.now c.proxy_get_current_time_nanoseconds.ensures.ends)

pub returns-in-SetTickPeriodMilliseconds-clause-ends : goal.returns-in-SetTickPeriodMilliseconds-clause-ends
returns-in-SetTickPeriodMilliseconds-clause-ends g c =
    let p = g.S.Shared.performs in
    let nothing = g.met.S.Shared.nothing in
    let h = c.args.contexts.now in
    let at = g.G.Guest.at c.args.guest.now in
    as_called p c.args.shared.now c.args.shared.now c.args.now c.args.vm c.args.args.now at (seen h c.args.vm) h c.proxy_set_tick_period_milliseconds.new.contexts c.proxy_set_tick_period_milliseconds.result (g.G.Guest.at c.proxy_set_tick_period_milliseconds.new.guest) c.args.logs.now c.args.logs.now c.args.call call.SetTickPeriodMilliseconds c.in-SetTickPeriodMilliseconds.is
    (local_hosted p nothing c.args.vm h (g.G.Guest.at c.proxy_set_tick_period_milliseconds.new.guest) c.args.logs.now _ c.proxy_set_tick_period_milliseconds.result c.proxy_set_tick_period_milliseconds.new.contexts c.args.shared.now c.proxy_set_tick_period_milliseconds.ensures.ends)

pub returns-in-SetEffectiveContext-clause-ends : goal.returns-in-SetEffectiveContext-clause-ends
returns-in-SetEffectiveContext-clause-ends g c =
    let p = g.S.Shared.performs in
    let nothing = g.met.S.Shared.nothing in
    let h = c.args.contexts.now in
    let at = g.G.Guest.at c.args.guest.now in
    as_called p c.args.shared.now c.args.shared.now c.args.now c.args.vm c.args.args.now at (seen h c.args.vm) h c.proxy_set_effective_context.new.contexts c.proxy_set_effective_context.result (g.G.Guest.at c.proxy_set_effective_context.new.guest) c.args.logs.now c.args.logs.now c.args.call call.SetEffectiveContext c.in-SetEffectiveContext.is
    (local_hosted p nothing c.args.vm h (g.G.Guest.at c.proxy_set_effective_context.new.guest) c.args.logs.now _ c.proxy_set_effective_context.result c.proxy_set_effective_context.new.contexts c.args.shared.now c.proxy_set_effective_context.ensures.ends)

pub returns-in-Done-clause-ends : goal.returns-in-Done-clause-ends
returns-in-Done-clause-ends g c =
    let p = g.S.Shared.performs in
    let nothing = g.met.S.Shared.nothing in
    let h = c.args.contexts.now in
    let at = g.G.Guest.at c.args.guest.now in
    as_called p c.args.shared.now c.args.shared.now c.args.now c.args.vm c.args.args.now at (seen h c.args.vm) h c.proxy_done.new.contexts c.proxy_done.result (g.G.Guest.at c.proxy_done.new.guest) c.args.logs.now c.args.logs.now c.args.call call.Done c.in-Done.is
    (local_hosted p nothing c.args.vm h (g.G.Guest.at c.proxy_done.new.guest) c.args.logs.now _ c.proxy_done.result c.proxy_done.new.contexts c.args.shared.now c.proxy_done.ensures.ends)

pub returns-in-GetBufferBytes-clause-ends : goal.returns-in-GetBufferBytes-clause-ends
returns-in-GetBufferBytes-clause-ends g c =
    let p = g.S.Shared.performs in
    let nothing = g.met.S.Shared.nothing in
    let h = c.args.contexts.now in
    let at = g.G.Guest.at c.args.guest.now in
    as_called p c.args.shared.now c.args.shared.now c.args.now c.args.vm c.args.args.now at (seen h c.args.vm) h c.proxy_get_buffer_bytes.new.contexts c.proxy_get_buffer_bytes.result (g.G.Guest.at c.proxy_get_buffer_bytes.new.guest) c.args.logs.now c.args.logs.now c.args.call call.GetBufferBytes c.in-GetBufferBytes.is
    (local_hosted p nothing c.args.vm h (g.G.Guest.at c.proxy_get_buffer_bytes.new.guest) c.args.logs.now _ c.proxy_get_buffer_bytes.result c.proxy_get_buffer_bytes.new.contexts c.args.shared.now c.proxy_get_buffer_bytes.ensures.ends)

pub returns-in-GetBufferStatus-clause-ends : goal.returns-in-GetBufferStatus-clause-ends
returns-in-GetBufferStatus-clause-ends g c =
    let p = g.S.Shared.performs in
    let nothing = g.met.S.Shared.nothing in
    let h = c.args.contexts.now in
    let at = g.G.Guest.at c.args.guest.now in
    as_called p c.args.shared.now c.args.shared.now c.args.now c.args.vm c.args.args.now at (seen h c.args.vm) h c.proxy_get_buffer_status.new.contexts c.proxy_get_buffer_status.result (g.G.Guest.at c.proxy_get_buffer_status.new.guest) c.args.logs.now c.args.logs.now c.args.call call.GetBufferStatus c.in-GetBufferStatus.is
    (local_hosted p nothing c.args.vm h (g.G.Guest.at c.proxy_get_buffer_status.new.guest) c.args.logs.now _ c.proxy_get_buffer_status.result c.proxy_get_buffer_status.new.contexts c.args.shared.now c.proxy_get_buffer_status.ensures.ends)

pub returns-in-SetBufferBytes-clause-ends : goal.returns-in-SetBufferBytes-clause-ends
returns-in-SetBufferBytes-clause-ends g c =
    let p = g.S.Shared.performs in
    let nothing = g.met.S.Shared.nothing in
    let h = c.args.contexts.now in
    let at = g.G.Guest.at c.args.guest.now in
    as_called p c.args.shared.now c.args.shared.now c.args.now c.args.vm c.args.args.now at (seen h c.args.vm) h c.proxy_set_buffer_bytes.new.contexts c.proxy_set_buffer_bytes.result (g.G.Guest.at c.proxy_set_buffer_bytes.new.guest) c.args.logs.now c.args.logs.now c.args.call call.SetBufferBytes c.in-SetBufferBytes.is
    (local_hosted p nothing c.args.vm h (g.G.Guest.at c.proxy_set_buffer_bytes.new.guest) c.args.logs.now _ c.proxy_set_buffer_bytes.result c.proxy_set_buffer_bytes.new.contexts c.args.shared.now c.proxy_set_buffer_bytes.ensures.ends)

pub returns-in-GetHeaderMapPairs-clause-ends : goal.returns-in-GetHeaderMapPairs-clause-ends
returns-in-GetHeaderMapPairs-clause-ends g c =
    let p = g.S.Shared.performs in
    let nothing = g.met.S.Shared.nothing in
    let h = c.args.contexts.now in
    let at = g.G.Guest.at c.args.guest.now in
    as_called p c.args.shared.now c.args.shared.now c.args.now c.args.vm c.args.args.now at (seen h c.args.vm) h c.proxy_get_header_map_pairs.new.contexts c.proxy_get_header_map_pairs.result (g.G.Guest.at c.proxy_get_header_map_pairs.new.guest) c.args.logs.now c.args.logs.now c.args.call call.GetHeaderMapPairs c.in-GetHeaderMapPairs.is
    (local_hosted p nothing c.args.vm h (g.G.Guest.at c.proxy_get_header_map_pairs.new.guest) c.args.logs.now _ c.proxy_get_header_map_pairs.result c.proxy_get_header_map_pairs.new.contexts c.args.shared.now c.proxy_get_header_map_pairs.ensures.ends)

pub returns-in-SetHeaderMapPairs-clause-ends : goal.returns-in-SetHeaderMapPairs-clause-ends
returns-in-SetHeaderMapPairs-clause-ends g c =
    let p = g.S.Shared.performs in
    let nothing = g.met.S.Shared.nothing in
    let h = c.args.contexts.now in
    let at = g.G.Guest.at c.args.guest.now in
    as_called p c.args.shared.now c.args.shared.now c.args.now c.args.vm c.args.args.now at (seen h c.args.vm) h c.proxy_set_header_map_pairs.new.contexts c.proxy_set_header_map_pairs.result (g.G.Guest.at c.proxy_set_header_map_pairs.new.guest) c.args.logs.now c.args.logs.now c.args.call call.SetHeaderMapPairs c.in-SetHeaderMapPairs.is
    (local_hosted p nothing c.args.vm h (g.G.Guest.at c.proxy_set_header_map_pairs.new.guest) c.args.logs.now _ c.proxy_set_header_map_pairs.result c.proxy_set_header_map_pairs.new.contexts c.args.shared.now c.proxy_set_header_map_pairs.ensures.ends)

pub returns-in-GetHeaderMapSize-clause-ends : goal.returns-in-GetHeaderMapSize-clause-ends
returns-in-GetHeaderMapSize-clause-ends g c =
    let p = g.S.Shared.performs in
    let nothing = g.met.S.Shared.nothing in
    let h = c.args.contexts.now in
    let at = g.G.Guest.at c.args.guest.now in
    as_called p c.args.shared.now c.args.shared.now c.args.now c.args.vm c.args.args.now at (seen h c.args.vm) h c.proxy_get_header_map_size.new.contexts c.proxy_get_header_map_size.result (g.G.Guest.at c.proxy_get_header_map_size.new.guest) c.args.logs.now c.args.logs.now c.args.call call.GetHeaderMapSize c.in-GetHeaderMapSize.is
    (local_hosted p nothing c.args.vm h (g.G.Guest.at c.proxy_get_header_map_size.new.guest) c.args.logs.now _ c.proxy_get_header_map_size.result c.proxy_get_header_map_size.new.contexts c.args.shared.now c.proxy_get_header_map_size.ensures.ends)

pub returns-in-GetHeaderMapValue-clause-ends : goal.returns-in-GetHeaderMapValue-clause-ends
returns-in-GetHeaderMapValue-clause-ends g c =
    let p = g.S.Shared.performs in
    let nothing = g.met.S.Shared.nothing in
    let h = c.args.contexts.now in
    let at = g.G.Guest.at c.args.guest.now in
    as_called p c.args.shared.now c.args.shared.now c.args.now c.args.vm c.args.args.now at (seen h c.args.vm) h c.proxy_get_header_map_value.new.contexts c.proxy_get_header_map_value.result (g.G.Guest.at c.proxy_get_header_map_value.new.guest) c.args.logs.now c.args.logs.now c.args.call call.GetHeaderMapValue c.in-GetHeaderMapValue.is
    (local_hosted p nothing c.args.vm h (g.G.Guest.at c.proxy_get_header_map_value.new.guest) c.args.logs.now _ c.proxy_get_header_map_value.result c.proxy_get_header_map_value.new.contexts c.args.shared.now c.proxy_get_header_map_value.ensures.ends)

pub returns-in-AddHeaderMapValue-clause-ends : goal.returns-in-AddHeaderMapValue-clause-ends
returns-in-AddHeaderMapValue-clause-ends g c =
    let p = g.S.Shared.performs in
    let nothing = g.met.S.Shared.nothing in
    let h = c.args.contexts.now in
    let at = g.G.Guest.at c.args.guest.now in
    as_called p c.args.shared.now c.args.shared.now c.args.now c.args.vm c.args.args.now at (seen h c.args.vm) h c.proxy_add_header_map_value.new.contexts c.proxy_add_header_map_value.result (g.G.Guest.at c.proxy_add_header_map_value.new.guest) c.args.logs.now c.args.logs.now c.args.call call.AddHeaderMapValue c.in-AddHeaderMapValue.is
    (local_hosted p nothing c.args.vm h (g.G.Guest.at c.proxy_add_header_map_value.new.guest) c.args.logs.now _ c.proxy_add_header_map_value.result c.proxy_add_header_map_value.new.contexts c.args.shared.now c.proxy_add_header_map_value.ensures.ends)

pub returns-in-ReplaceHeaderMapValue-clause-ends : goal.returns-in-ReplaceHeaderMapValue-clause-ends
returns-in-ReplaceHeaderMapValue-clause-ends g c =
    let p = g.S.Shared.performs in
    let nothing = g.met.S.Shared.nothing in
    let h = c.args.contexts.now in
    let at = g.G.Guest.at c.args.guest.now in
    as_called p c.args.shared.now c.args.shared.now c.args.now c.args.vm c.args.args.now at (seen h c.args.vm) h c.proxy_replace_header_map_value.new.contexts c.proxy_replace_header_map_value.result (g.G.Guest.at c.proxy_replace_header_map_value.new.guest) c.args.logs.now c.args.logs.now c.args.call call.ReplaceHeaderMapValue c.in-ReplaceHeaderMapValue.is
    (local_hosted p nothing c.args.vm h (g.G.Guest.at c.proxy_replace_header_map_value.new.guest) c.args.logs.now _ c.proxy_replace_header_map_value.result c.proxy_replace_header_map_value.new.contexts c.args.shared.now c.proxy_replace_header_map_value.ensures.ends)

pub returns-in-RemoveHeaderMapValue-clause-ends : goal.returns-in-RemoveHeaderMapValue-clause-ends
returns-in-RemoveHeaderMapValue-clause-ends g c =
    let p = g.S.Shared.performs in
    let nothing = g.met.S.Shared.nothing in
    let h = c.args.contexts.now in
    let at = g.G.Guest.at c.args.guest.now in
    as_called p c.args.shared.now c.args.shared.now c.args.now c.args.vm c.args.args.now at (seen h c.args.vm) h c.proxy_remove_header_map_value.new.contexts c.proxy_remove_header_map_value.result (g.G.Guest.at c.proxy_remove_header_map_value.new.guest) c.args.logs.now c.args.logs.now c.args.call call.RemoveHeaderMapValue c.in-RemoveHeaderMapValue.is
    (local_hosted p nothing c.args.vm h (g.G.Guest.at c.proxy_remove_header_map_value.new.guest) c.args.logs.now _ c.proxy_remove_header_map_value.result c.proxy_remove_header_map_value.new.contexts c.args.shared.now c.proxy_remove_header_map_value.ensures.ends)

pub returns-in-ContinueStream-clause-ends : goal.returns-in-ContinueStream-clause-ends
returns-in-ContinueStream-clause-ends g c =
    let p = g.S.Shared.performs in
    let nothing = g.met.S.Shared.nothing in
    let h = c.args.contexts.now in
    let at = g.G.Guest.at c.args.guest.now in
    as_called p c.args.shared.now c.args.shared.now c.args.now c.args.vm c.args.args.now at (seen h c.args.vm) h c.proxy_continue_stream.new.contexts c.proxy_continue_stream.result (g.G.Guest.at c.proxy_continue_stream.new.guest) c.args.logs.now c.args.logs.now c.args.call call.ContinueStream c.in-ContinueStream.is
    (local_hosted p nothing c.args.vm h (g.G.Guest.at c.proxy_continue_stream.new.guest) c.args.logs.now _ c.proxy_continue_stream.result c.proxy_continue_stream.new.contexts c.args.shared.now c.proxy_continue_stream.ensures.ends)

pub returns-in-CloseStream-clause-ends : goal.returns-in-CloseStream-clause-ends
returns-in-CloseStream-clause-ends g c =
    let p = g.S.Shared.performs in
    let nothing = g.met.S.Shared.nothing in
    let h = c.args.contexts.now in
    let at = g.G.Guest.at c.args.guest.now in
    as_called p c.args.shared.now c.args.shared.now c.args.now c.args.vm c.args.args.now at (seen h c.args.vm) h c.proxy_close_stream.new.contexts c.proxy_close_stream.result (g.G.Guest.at c.proxy_close_stream.new.guest) c.args.logs.now c.args.logs.now c.args.call call.CloseStream c.in-CloseStream.is
    (local_hosted p nothing c.args.vm h (g.G.Guest.at c.proxy_close_stream.new.guest) c.args.logs.now _ c.proxy_close_stream.result c.proxy_close_stream.new.contexts c.args.shared.now c.proxy_close_stream.ensures.ends)

pub returns-in-SendLocalResponse-clause-ends : goal.returns-in-SendLocalResponse-clause-ends
returns-in-SendLocalResponse-clause-ends g c =
    let p = g.S.Shared.performs in
    let nothing = g.met.S.Shared.nothing in
    let h = c.args.contexts.now in
    let at = g.G.Guest.at c.args.guest.now in
    as_called p c.args.shared.now c.args.shared.now c.args.now c.args.vm c.args.args.now at (seen h c.args.vm) h c.proxy_send_local_response.new.contexts c.proxy_send_local_response.result (g.G.Guest.at c.proxy_send_local_response.new.guest) c.args.logs.now c.args.logs.now c.args.call call.SendLocalResponse c.in-SendLocalResponse.is
    (local_hosted p nothing c.args.vm h (g.G.Guest.at c.proxy_send_local_response.new.guest) c.args.logs.now _ c.proxy_send_local_response.result c.proxy_send_local_response.new.contexts c.args.shared.now c.proxy_send_local_response.ensures.ends)

pub returns-in-HttpCall-clause-ends : goal.returns-in-HttpCall-clause-ends
returns-in-HttpCall-clause-ends g c =
    let p = g.S.Shared.performs in
    let nothing = g.met.S.Shared.nothing in
    let h = c.args.contexts.now in
    let at = g.G.Guest.at c.args.guest.now in
    as_called p c.args.shared.now c.args.shared.now c.args.now c.args.vm c.args.args.now at (seen h c.args.vm) h c.proxy_http_call.new.contexts c.proxy_http_call.result (g.G.Guest.at c.proxy_http_call.new.guest) c.args.logs.now c.args.logs.now c.args.call call.HttpCall c.in-HttpCall.is
    (local_hosted p nothing c.args.vm h (g.G.Guest.at c.proxy_http_call.new.guest) c.args.logs.now _ c.proxy_http_call.result c.proxy_http_call.new.contexts c.args.shared.now c.proxy_http_call.ensures.ends)

pub returns-in-GetSharedData-clause-ends : goal.returns-in-GetSharedData-clause-ends
returns-in-GetSharedData-clause-ends g c =
    let p = g.S.Shared.performs in
    let nothing = g.met.S.Shared.nothing in
    let h = c.args.contexts.now in
    let at = g.G.Guest.at c.args.guest.now in
    as_called p c.args.shared.now c.proxy_get_shared_data.new.shared c.args.now c.args.vm c.args.args.now at (seen h c.args.vm) h h c.proxy_get_shared_data.result (g.G.Guest.at c.proxy_get_shared_data.new.guest) c.args.logs.now c.args.logs.now c.args.call call.GetSharedData c.in-GetSharedData.is
    (asking_hosted p nothing c.args.vm h (g.G.Guest.at c.proxy_get_shared_data.new.guest) c.args.logs.now c.requires.vm _ c.proxy_get_shared_data.result c.args.shared.now c.proxy_get_shared_data.new.shared c.proxy_get_shared_data.ensures.ends)

pub returns-in-SetSharedData-clause-ends : goal.returns-in-SetSharedData-clause-ends
returns-in-SetSharedData-clause-ends g c =
    let p = g.S.Shared.performs in
    let nothing = g.met.S.Shared.nothing in
    let h = c.args.contexts.now in
    let at = g.G.Guest.at c.args.guest.now in
    as_called p c.args.shared.now c.proxy_set_shared_data.new.shared c.args.now c.args.vm c.args.args.now at (seen h c.args.vm) h h c.proxy_set_shared_data.result (g.G.Guest.at c.proxy_set_shared_data.new.guest) c.args.logs.now c.args.logs.now c.args.call call.SetSharedData c.in-SetSharedData.is
    (asking_hosted p nothing c.args.vm h (g.G.Guest.at c.proxy_set_shared_data.new.guest) c.args.logs.now c.requires.vm _ c.proxy_set_shared_data.result c.args.shared.now c.proxy_set_shared_data.new.shared c.proxy_set_shared_data.ensures.ends)

pub returns-in-RegisterSharedQueue-clause-ends : goal.returns-in-RegisterSharedQueue-clause-ends
returns-in-RegisterSharedQueue-clause-ends g c =
    let p = g.S.Shared.performs in
    let nothing = g.met.S.Shared.nothing in
    let h = c.args.contexts.now in
    let at = g.G.Guest.at c.args.guest.now in
    as_called p c.args.shared.now c.proxy_register_shared_queue.new.shared c.args.now c.args.vm c.args.args.now at (seen h c.args.vm) h h c.proxy_register_shared_queue.result (g.G.Guest.at c.proxy_register_shared_queue.new.guest) c.args.logs.now c.args.logs.now c.args.call call.RegisterSharedQueue c.in-RegisterSharedQueue.is
    (asking_hosted p nothing c.args.vm h (g.G.Guest.at c.proxy_register_shared_queue.new.guest) c.args.logs.now c.requires.vm _ c.proxy_register_shared_queue.result c.args.shared.now c.proxy_register_shared_queue.new.shared c.proxy_register_shared_queue.ensures.ends)

pub returns-in-ResolveSharedQueue-clause-ends : goal.returns-in-ResolveSharedQueue-clause-ends
returns-in-ResolveSharedQueue-clause-ends g c =
    let p = g.S.Shared.performs in
    let nothing = g.met.S.Shared.nothing in
    let h = c.args.contexts.now in
    let at = g.G.Guest.at c.args.guest.now in
    as_called p c.args.shared.now c.proxy_resolve_shared_queue.new.shared c.args.now c.args.vm c.args.args.now at (seen h c.args.vm) h h c.proxy_resolve_shared_queue.result (g.G.Guest.at c.proxy_resolve_shared_queue.new.guest) c.args.logs.now c.args.logs.now c.args.call call.ResolveSharedQueue c.in-ResolveSharedQueue.is
    (asking_hosted p nothing c.args.vm h (g.G.Guest.at c.proxy_resolve_shared_queue.new.guest) c.args.logs.now c.requires.vm _ c.proxy_resolve_shared_queue.result c.args.shared.now c.proxy_resolve_shared_queue.new.shared c.proxy_resolve_shared_queue.ensures.ends)

pub returns-in-DequeueSharedQueue-clause-ends : goal.returns-in-DequeueSharedQueue-clause-ends
returns-in-DequeueSharedQueue-clause-ends g c =
    let p = g.S.Shared.performs in
    let nothing = g.met.S.Shared.nothing in
    let h = c.args.contexts.now in
    let at = g.G.Guest.at c.args.guest.now in
    as_called p c.args.shared.now c.proxy_dequeue_shared_queue.new.shared c.args.now c.args.vm c.args.args.now at (seen h c.args.vm) h h c.proxy_dequeue_shared_queue.result (g.G.Guest.at c.proxy_dequeue_shared_queue.new.guest) c.args.logs.now c.args.logs.now c.args.call call.DequeueSharedQueue c.in-DequeueSharedQueue.is
    (asking_hosted p nothing c.args.vm h (g.G.Guest.at c.proxy_dequeue_shared_queue.new.guest) c.args.logs.now c.requires.vm _ c.proxy_dequeue_shared_queue.result c.args.shared.now c.proxy_dequeue_shared_queue.new.shared c.proxy_dequeue_shared_queue.ensures.ends)

pub returns-in-EnqueueSharedQueue-clause-ends : goal.returns-in-EnqueueSharedQueue-clause-ends
returns-in-EnqueueSharedQueue-clause-ends g c =
    let p = g.S.Shared.performs in
    let nothing = g.met.S.Shared.nothing in
    let h = c.args.contexts.now in
    let at = g.G.Guest.at c.args.guest.now in
    as_called p c.args.shared.now c.proxy_enqueue_shared_queue.new.shared c.args.now c.args.vm c.args.args.now at (seen h c.args.vm) h h c.proxy_enqueue_shared_queue.result (g.G.Guest.at c.proxy_enqueue_shared_queue.new.guest) c.args.logs.now c.args.logs.now c.args.call call.EnqueueSharedQueue c.in-EnqueueSharedQueue.is
    (asking_hosted p nothing c.args.vm h (g.G.Guest.at c.proxy_enqueue_shared_queue.new.guest) c.args.logs.now c.requires.vm _ c.proxy_enqueue_shared_queue.result c.args.shared.now c.proxy_enqueue_shared_queue.new.shared c.proxy_enqueue_shared_queue.ensures.ends)

pub returns-in-GetProperty-clause-ends : goal.returns-in-GetProperty-clause-ends
returns-in-GetProperty-clause-ends g c =
    let p = g.S.Shared.performs in
    let nothing = g.met.S.Shared.nothing in
    let h = c.args.contexts.now in
    let at = g.G.Guest.at c.args.guest.now in
    as_called p c.args.shared.now c.args.shared.now c.args.now c.args.vm c.args.args.now at (seen h c.args.vm) h c.proxy_get_property.new.contexts c.proxy_get_property.result (g.G.Guest.at c.proxy_get_property.new.guest) c.args.logs.now c.args.logs.now c.args.call call.GetProperty c.in-GetProperty.is
    (local_hosted p nothing c.args.vm h (g.G.Guest.at c.proxy_get_property.new.guest) c.args.logs.now _ c.proxy_get_property.result c.proxy_get_property.new.contexts c.args.shared.now c.proxy_get_property.ensures.ends)

pub returns-in-SetProperty-clause-ends : goal.returns-in-SetProperty-clause-ends
returns-in-SetProperty-clause-ends g c =
    let p = g.S.Shared.performs in
    let nothing = g.met.S.Shared.nothing in
    let h = c.args.contexts.now in
    let at = g.G.Guest.at c.args.guest.now in
    as_called p c.args.shared.now c.args.shared.now c.args.now c.args.vm c.args.args.now at (seen h c.args.vm) h c.proxy_set_property.new.contexts c.proxy_set_property.result (g.G.Guest.at c.proxy_set_property.new.guest) c.args.logs.now c.args.logs.now c.args.call call.SetProperty c.in-SetProperty.is
    (local_hosted p nothing c.args.vm h (g.G.Guest.at c.proxy_set_property.new.guest) c.args.logs.now _ c.proxy_set_property.result c.proxy_set_property.new.contexts c.args.shared.now c.proxy_set_property.ensures.ends)

pub returns-in-DefineMetric-clause-ends : goal.returns-in-DefineMetric-clause-ends
returns-in-DefineMetric-clause-ends g c =
    let p = g.S.Shared.performs in
    let nothing = g.met.S.Shared.nothing in
    let h = c.args.contexts.now in
    let at = g.G.Guest.at c.args.guest.now in
    as_called p c.args.shared.now c.proxy_define_metric.new.shared c.args.now c.args.vm c.args.args.now at (seen h c.args.vm) h h c.proxy_define_metric.result (g.G.Guest.at c.proxy_define_metric.new.guest) c.args.logs.now c.args.logs.now c.args.call call.DefineMetric c.in-DefineMetric.is
    (asking_hosted p nothing c.args.vm h (g.G.Guest.at c.proxy_define_metric.new.guest) c.args.logs.now c.requires.vm _ c.proxy_define_metric.result c.args.shared.now c.proxy_define_metric.new.shared c.proxy_define_metric.ensures.ends)

pub returns-in-IncrementMetric-clause-ends : goal.returns-in-IncrementMetric-clause-ends
returns-in-IncrementMetric-clause-ends g c =
    let p = g.S.Shared.performs in
    let nothing = g.met.S.Shared.nothing in
    let h = c.args.contexts.now in
    let at = g.G.Guest.at c.args.guest.now in
    as_called p c.args.shared.now c.proxy_increment_metric.new.shared c.args.now c.args.vm c.args.args.now at (seen h c.args.vm) h h c.proxy_increment_metric.result (g.G.Guest.at c.proxy_increment_metric.new.guest) c.args.logs.now c.args.logs.now c.args.call call.IncrementMetric c.in-IncrementMetric.is
    (asking_hosted p nothing c.args.vm h (g.G.Guest.at c.proxy_increment_metric.new.guest) c.args.logs.now c.requires.vm _ c.proxy_increment_metric.result c.args.shared.now c.proxy_increment_metric.new.shared c.proxy_increment_metric.ensures.ends)

pub returns-in-RecordMetric-clause-ends : goal.returns-in-RecordMetric-clause-ends
returns-in-RecordMetric-clause-ends g c =
    let p = g.S.Shared.performs in
    let nothing = g.met.S.Shared.nothing in
    let h = c.args.contexts.now in
    let at = g.G.Guest.at c.args.guest.now in
    as_called p c.args.shared.now c.proxy_record_metric.new.shared c.args.now c.args.vm c.args.args.now at (seen h c.args.vm) h h c.proxy_record_metric.result (g.G.Guest.at c.proxy_record_metric.new.guest) c.args.logs.now c.args.logs.now c.args.call call.RecordMetric c.in-RecordMetric.is
    (asking_hosted p nothing c.args.vm h (g.G.Guest.at c.proxy_record_metric.new.guest) c.args.logs.now c.requires.vm _ c.proxy_record_metric.result c.args.shared.now c.proxy_record_metric.new.shared c.proxy_record_metric.ensures.ends)

pub returns-in-GetMetric-clause-ends : goal.returns-in-GetMetric-clause-ends
returns-in-GetMetric-clause-ends g c =
    let p = g.S.Shared.performs in
    let nothing = g.met.S.Shared.nothing in
    let h = c.args.contexts.now in
    let at = g.G.Guest.at c.args.guest.now in
    as_called p c.args.shared.now c.proxy_get_metric.new.shared c.args.now c.args.vm c.args.args.now at (seen h c.args.vm) h h c.proxy_get_metric.result (g.G.Guest.at c.proxy_get_metric.new.guest) c.args.logs.now c.args.logs.now c.args.call call.GetMetric c.in-GetMetric.is
    (asking_hosted p nothing c.args.vm h (g.G.Guest.at c.proxy_get_metric.new.guest) c.args.logs.now c.requires.vm _ c.proxy_get_metric.result c.args.shared.now c.proxy_get_metric.new.shared c.proxy_get_metric.ensures.ends)
