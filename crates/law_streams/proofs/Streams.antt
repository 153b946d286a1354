-- The worked turns of streams, by computation.
use Rattle.std.proofs.Common.{◌≡◌, true, false, List, [], ◌∷◌, ◌++◌, map, codes, refl}
use Rattle.std.specs.Fmt.{digits}
use Rattle.filter_host.specs.Course.{Course}
use Rattle.filter_host.specs.declared.host.Callback.TheVariants.{CallAnswered, ContextCreate, Tick, DownstreamData, UpstreamData}
use Rattle.gate_io.specs.declared.event.Sent.TheVariants as sent
use Rattle.gate_io.specs.declared.event.Side.TheVariants.{Down, Up}
use Rattle.gate_io.specs.declared.event.What.TheVariants as whats
use Rattle.streams_model.specs.Settling.{settling}
use Rattle.worker_model.specs.Turn.{Outcome}
use Rattle.worker_model.specs.declared.types.TcpLine.{TcpLine}
use Rattle.law_turns.proofs.Following.{end_by, ends_there, reaches_by}
use Rattle.http_header.specs.Token.{is_token_byte}
use Rattle.h1_model.specs.Moment.{year_from, month_from}
use Rattle.httparse.proofs.OnLiterals.{httparse_on_literals}
use Rattle.httpdate.proofs.OnLiterals.{httpdate_on_literals}
use Rattle.law_callouts.specs.Calls.{first_out, first_closed}
use Rattle.law_turns.specs.Tables.{Call, call}
use Rattle.law_streams.specs.Streams.{one, two, starts_with, turn_by, turn_of_two, silent_turn, pauses, holds, calls_first, closes, traps, traps_first, goes_on_and_pauses, crowded_turn, lines_up_to, death_log, first_calls, last_calls, last_calls_down, first_calls_of_two, last_calls_of_two, StreamExamples, StreamWants}

abbrev connects_turn : Course (Outcome (List Call))
connects_turn = silent_turn (starts_with (one false)) 0 (whats.Opened 1)

abbrev connects_end : Outcome (List Call)
connects_end = end_by [] connects_turn

connects_there : ends_there [] connects_turn ≡ true
unfolding settling digits
connects_there = refl

connects_told : connects_end.state.host ≡ []
unfolding settling digits
connects_told = refl

connects_sent : connects_end.sent ≡ sent.Connect 1 ∷ []
unfolding settling digits
connects_sent = refl

connects_lines : map (λ (x : TcpLine). x.number) connects_end.state.room.tcp ≡ 1 ∷ []
unfolding settling digits
connects_lines = refl

abbrev sends_up_turn : Course (Outcome (List Call))
sends_up_turn = silent_turn connects_end.state 0 (whats.Bytes 1 Down (codes "ab"))

abbrev sends_up_end : Outcome (List Call)
sends_up_end = end_by [] sends_up_turn

sends_up_there : ends_there [] sends_up_turn ≡ true
unfolding settling digits
sends_up_there = refl

sends_up_told : sends_up_end.state.host ≡ []
unfolding settling digits
sends_up_told = refl

sends_up_sent : sends_up_end.sent ≡ sent.Bytes 1 Up (codes "ab") ∷ []
unfolding settling digits
sends_up_sent = refl

sends_up_lines : map (λ (x : TcpLine). x.number) sends_up_end.state.room.tcp ≡ 1 ∷ []
unfolding settling digits
sends_up_lines = refl

abbrev sends_down_turn : Course (Outcome (List Call))
sends_down_turn = silent_turn sends_up_end.state 0 (whats.Bytes 1 Up (codes "c"))

abbrev sends_down_end : Outcome (List Call)
sends_down_end = end_by [] sends_down_turn

sends_down_there : ends_there [] sends_down_turn ≡ true
unfolding settling digits
sends_down_there = refl

sends_down_told : sends_down_end.state.host ≡ []
unfolding settling digits
sends_down_told = refl

sends_down_sent : sends_down_end.sent ≡ sent.Bytes 1 Down (codes "c") ∷ []
unfolding settling digits
sends_down_sent = refl

sends_down_lines : map (λ (x : TcpLine). x.number) sends_down_end.state.room.tcp ≡ 1 ∷ []
unfolding settling digits
sends_down_lines = refl

abbrev client_ends_turn : Course (Outcome (List Call))
client_ends_turn = silent_turn sends_down_end.state 0 (whats.End 1 Down)

abbrev client_ends_end : Outcome (List Call)
client_ends_end = end_by [] client_ends_turn

client_ends_there : ends_there [] client_ends_turn ≡ true
unfolding settling digits
client_ends_there = refl

client_ends_told : client_ends_end.state.host ≡ []
unfolding settling digits
client_ends_told = refl

client_ends_sent : client_ends_end.sent ≡ []
unfolding settling digits
client_ends_sent = refl

client_ends_lines : map (λ (x : TcpLine). x.number) client_ends_end.state.room.tcp ≡ 1 ∷ []
unfolding settling digits
client_ends_lines = refl

abbrev server_ends_turn : Course (Outcome (List Call))
server_ends_turn = silent_turn client_ends_end.state 0 (whats.End 1 Up)

abbrev server_ends_end : Outcome (List Call)
server_ends_end = end_by [] server_ends_turn

server_ends_there : ends_there [] server_ends_turn ≡ true
unfolding settling digits
server_ends_there = refl

server_ends_told : server_ends_end.state.host ≡ []
unfolding settling digits
server_ends_told = refl

server_ends_sent : server_ends_end.sent ≡ sent.Close 1 Up ∷ sent.Close 1 Down ∷ []
unfolding settling digits
server_ends_sent = refl

server_ends_lines : map (λ (x : TcpLine). x.number) server_ends_end.state.room.tcp ≡ []
unfolding settling digits
server_ends_lines = refl

abbrev asks_new_turn : Course (Outcome (List Call))
asks_new_turn = turn_by [] false (starts_with (one false)) 0 (whats.Opened 1)

abbrev asks_new_end : Outcome (List Call)
asks_new_end = end_by [] asks_new_turn

asks_new_there : ends_there [] asks_new_turn ≡ true
unfolding settling digits
asks_new_there = refl

asks_new_told : asks_new_end.state.host ≡ first_calls
unfolding settling digits
asks_new_told = refl

asks_new_sent : asks_new_end.sent ≡ sent.Connect 1 ∷ []
unfolding settling digits
asks_new_sent = refl

asks_new_lines : map (λ (x : TcpLine). x.number) asks_new_end.state.room.tcp ≡ 1 ∷ []
unfolding settling digits
asks_new_lines = refl

abbrev asks_data_turn : Course (Outcome (List Call))
asks_data_turn = turn_by [] false asks_new_end.state 0 (whats.Bytes 1 Down (codes "ab"))

abbrev asks_data_end : Outcome (List Call)
asks_data_end = end_by [] asks_data_turn

asks_data_there : ends_there [] asks_data_turn ≡ true
unfolding settling digits
asks_data_there = refl

asks_data_told : asks_data_end.state.host ≡ first_calls ++ call DownstreamData 2 2 0 ∷ []
unfolding settling digits
asks_data_told = refl

asks_data_sent : asks_data_end.sent ≡ sent.Bytes 1 Up (codes "ab") ∷ []
unfolding settling digits
asks_data_sent = refl

asks_data_lines : map (λ (x : TcpLine). x.number) asks_data_end.state.room.tcp ≡ 1 ∷ []
unfolding settling digits
asks_data_lines = refl

abbrev asks_end_turn : Course (Outcome (List Call))
asks_end_turn = turn_by [] false asks_data_end.state 0 (whats.End 1 Up)

abbrev asks_end_end : Outcome (List Call)
asks_end_end = end_by [] asks_end_turn

asks_end_there : ends_there [] asks_end_turn ≡ true
unfolding settling digits
asks_end_there = refl

asks_end_told : asks_end_end.state.host ≡ first_calls ++ call DownstreamData 2 2 0 ∷ call UpstreamData 2 0 1 ∷ last_calls 2 1
unfolding settling digits
asks_end_told = refl

asks_end_sent : asks_end_end.sent ≡ sent.Close 1 Up ∷ sent.Close 1 Down ∷ []
unfolding settling digits
asks_end_sent = refl

asks_end_lines : map (λ (x : TcpLine). x.number) asks_end_end.state.room.tcp ≡ []
unfolding settling digits
asks_end_lines = refl

abbrev asks_refused_turn : Course (Outcome (List Call))
asks_refused_turn = turn_by [] false asks_new_end.state 0 (whats.Refused 1)

abbrev asks_refused_end : Outcome (List Call)
asks_refused_end = end_by [] asks_refused_turn

asks_refused_there : ends_there [] asks_refused_turn ≡ true
unfolding settling digits
asks_refused_there = refl

asks_refused_told : asks_refused_end.state.host ≡ first_calls ++ last_calls 2 1
unfolding settling digits
asks_refused_told = refl

asks_refused_sent : asks_refused_end.sent ≡ sent.Close 1 Up ∷ sent.Close 1 Down ∷ []
unfolding settling digits
asks_refused_sent = refl

asks_refused_lines : map (λ (x : TcpLine). x.number) asks_refused_end.state.room.tcp ≡ []
unfolding settling digits
asks_refused_lines = refl

abbrev pauses_new_turn : Course (Outcome (List Call))
pauses_new_turn = turn_by pauses false (starts_with (one false)) 0 (whats.Opened 1)

abbrev pauses_new_end : Outcome (List Call)
pauses_new_end = end_by [] pauses_new_turn

pauses_new_there : ends_there [] pauses_new_turn ≡ true
unfolding settling digits
pauses_new_there = refl

pauses_new_told : pauses_new_end.state.host ≡ first_calls
unfolding settling digits
pauses_new_told = refl

pauses_new_sent : pauses_new_end.sent ≡ []
unfolding settling digits
pauses_new_sent = refl

pauses_new_lines : map (λ (x : TcpLine). x.number) pauses_new_end.state.room.tcp ≡ 1 ∷ []
unfolding settling digits
pauses_new_lines = refl

abbrev bytes_wait_turn : Course (Outcome (List Call))
bytes_wait_turn = turn_by pauses false pauses_new_end.state 0 (whats.Bytes 1 Down (codes "ab"))

abbrev bytes_wait_end : Outcome (List Call)
bytes_wait_end = end_by [] bytes_wait_turn

bytes_wait_there : ends_there [] bytes_wait_turn ≡ true
unfolding settling digits
bytes_wait_there = refl

bytes_wait_told : bytes_wait_end.state.host ≡ first_calls
unfolding settling digits
bytes_wait_told = refl

bytes_wait_sent : bytes_wait_end.sent ≡ []
unfolding settling digits
bytes_wait_sent = refl

bytes_wait_lines : map (λ (x : TcpLine). x.number) bytes_wait_end.state.room.tcp ≡ 1 ∷ []
unfolding settling digits
bytes_wait_lines = refl

abbrev end_waits_turn : Course (Outcome (List Call))
end_waits_turn = turn_by pauses false bytes_wait_end.state 0 (whats.End 1 Down)

abbrev end_waits_end : Outcome (List Call)
end_waits_end = end_by [] end_waits_turn

end_waits_there : ends_there [] end_waits_turn ≡ true
unfolding settling digits
end_waits_there = refl

end_waits_told : end_waits_end.state.host ≡ first_calls
unfolding settling digits
end_waits_told = refl

end_waits_sent : end_waits_end.sent ≡ []
unfolding settling digits
end_waits_sent = refl

end_waits_lines : map (λ (x : TcpLine). x.number) end_waits_end.state.room.tcp ≡ 1 ∷ []
unfolding settling digits
end_waits_lines = refl

abbrev nothing_up_yet_turn : Course (Outcome (List Call))
nothing_up_yet_turn = turn_by pauses false end_waits_end.state 0 (whats.Bytes 1 Up (codes "c"))

abbrev nothing_up_yet_end : Outcome (List Call)
nothing_up_yet_end = end_by [] nothing_up_yet_turn

nothing_up_yet_there : ends_there [] nothing_up_yet_turn ≡ true
unfolding settling digits
nothing_up_yet_there = refl

nothing_up_yet_told : nothing_up_yet_end.state.host ≡ first_calls
unfolding settling digits
nothing_up_yet_told = refl

nothing_up_yet_sent : nothing_up_yet_end.sent ≡ []
unfolding settling digits
nothing_up_yet_sent = refl

nothing_up_yet_lines : map (λ (x : TcpLine). x.number) nothing_up_yet_end.state.room.tcp ≡ 1 ∷ []
unfolding settling digits
nothing_up_yet_lines = refl

abbrev tick_lets_go_turn : Course (Outcome (List Call))
tick_lets_go_turn = turn_by pauses false nothing_up_yet_end.state 1000000000 whats.Clock

abbrev tick_lets_go_end : Outcome (List Call)
tick_lets_go_end = end_by [] tick_lets_go_turn

tick_lets_go_there : ends_there [] tick_lets_go_turn ≡ true
unfolding settling digits
tick_lets_go_there = refl

tick_lets_go_told : tick_lets_go_end.state.host ≡ first_calls ++ call Tick 1 0 0 ∷ call DownstreamData 2 2 0 ∷ call DownstreamData 2 0 1 ∷ []
unfolding settling digits
tick_lets_go_told = refl

tick_lets_go_sent : tick_lets_go_end.sent ≡ sent.Connect 1 ∷ sent.Bytes 1 Up (codes "ab") ∷ []
unfolding settling digits
tick_lets_go_sent = refl

tick_lets_go_lines : map (λ (x : TcpLine). x.number) tick_lets_go_end.state.room.tcp ≡ 1 ∷ []
unfolding settling digits
tick_lets_go_lines = refl

abbrev gone_before_turn : Course (Outcome (List Call))
gone_before_turn = turn_by pauses false bytes_wait_end.state 0 (whats.Gone 1 Down)

abbrev gone_before_end : Outcome (List Call)
gone_before_end = end_by [] gone_before_turn

gone_before_there : ends_there [] gone_before_turn ≡ true
unfolding settling digits
gone_before_there = refl

gone_before_told : gone_before_end.state.host ≡ first_calls ++ last_calls_down 2
unfolding settling digits
gone_before_told = refl

gone_before_sent : gone_before_end.sent ≡ []
unfolding settling digits
gone_before_sent = refl

gone_before_lines : map (λ (x : TcpLine). x.number) gone_before_end.state.room.tcp ≡ []
unfolding settling digits
gone_before_lines = refl

abbrev answer_decides_turn : Course (Outcome (List Call))
answer_decides_turn = turn_by goes_on_and_pauses false (starts_with (one false)) 0 (whats.Opened 1)

abbrev answer_decides_end : Outcome (List Call)
answer_decides_end = end_by [] answer_decides_turn

answer_decides_there : ends_there [] answer_decides_turn ≡ true
unfolding settling digits
answer_decides_there = refl

answer_decides_told : answer_decides_end.state.host ≡ first_calls
unfolding settling digits
answer_decides_told = refl

answer_decides_sent : answer_decides_end.sent ≡ []
unfolding settling digits
answer_decides_sent = refl

answer_decides_lines : map (λ (x : TcpLine). x.number) answer_decides_end.state.room.tcp ≡ 1 ∷ []
unfolding settling digits
answer_decides_lines = refl

abbrev holds_new_turn : Course (Outcome (List Call))
holds_new_turn = turn_by holds false (starts_with (one false)) 0 (whats.Opened 1)

abbrev holds_new_end : Outcome (List Call)
holds_new_end = end_by [] holds_new_turn

holds_new_there : ends_there [] holds_new_turn ≡ true
unfolding settling digits
holds_new_there = refl

holds_new_told : holds_new_end.state.host ≡ first_calls
unfolding settling digits
holds_new_told = refl

holds_new_sent : holds_new_end.sent ≡ sent.Connect 1 ∷ []
unfolding settling digits
holds_new_sent = refl

holds_new_lines : map (λ (x : TcpLine). x.number) holds_new_end.state.room.tcp ≡ 1 ∷ []
unfolding settling digits
holds_new_lines = refl

abbrev holds_first_turn : Course (Outcome (List Call))
holds_first_turn = turn_by holds false holds_new_end.state 0 (whats.Bytes 1 Down (codes "ab"))

abbrev holds_first_end : Outcome (List Call)
holds_first_end = end_by [] holds_first_turn

holds_first_there : ends_there [] holds_first_turn ≡ true
unfolding settling digits
holds_first_there = refl

holds_first_told : holds_first_end.state.host ≡ first_calls ++ call DownstreamData 2 2 0 ∷ []
unfolding settling digits
holds_first_told = refl

holds_first_sent : holds_first_end.sent ≡ []
unfolding settling digits
holds_first_sent = refl

holds_first_lines : map (λ (x : TcpLine). x.number) holds_first_end.state.room.tcp ≡ 1 ∷ []
unfolding settling digits
holds_first_lines = refl

abbrev goes_with_second_turn : Course (Outcome (List Call))
goes_with_second_turn = turn_by [] false holds_first_end.state 0 (whats.Bytes 1 Down (codes "c"))

abbrev goes_with_second_end : Outcome (List Call)
goes_with_second_end = end_by [] goes_with_second_turn

goes_with_second_there : ends_there [] goes_with_second_turn ≡ true
unfolding settling digits
goes_with_second_there = refl

goes_with_second_told : goes_with_second_end.state.host ≡ first_calls ++ call DownstreamData 2 2 0 ∷ call DownstreamData 2 3 0 ∷ []
unfolding settling digits
goes_with_second_told = refl

goes_with_second_sent : goes_with_second_end.sent ≡ sent.Bytes 1 Up (codes "abc") ∷ []
unfolding settling digits
goes_with_second_sent = refl

goes_with_second_lines : map (λ (x : TcpLine). x.number) goes_with_second_end.state.room.tcp ≡ 1 ∷ []
unfolding settling digits
goes_with_second_lines = refl

abbrev closes_stream_turn : Course (Outcome (List Call))
closes_stream_turn = turn_by closes false asks_new_end.state 0 (whats.Bytes 1 Down (codes "ab"))

abbrev closes_stream_end : Outcome (List Call)
closes_stream_end = end_by [] closes_stream_turn

closes_stream_there : ends_there [] closes_stream_turn ≡ true
unfolding settling digits
closes_stream_there = refl

closes_stream_told : closes_stream_end.state.host ≡ first_calls ++ call DownstreamData 2 2 0 ∷ last_calls 1 1
unfolding settling digits
closes_stream_told = refl

closes_stream_sent : closes_stream_end.sent ≡ sent.Close 1 Up ∷ sent.Close 1 Down ∷ []
unfolding settling digits
closes_stream_sent = refl

closes_stream_lines : map (λ (x : TcpLine). x.number) closes_stream_end.state.room.tcp ≡ []
unfolding settling digits
closes_stream_lines = refl

abbrev dies_closed_turn : Course (Outcome (List Call))
dies_closed_turn = turn_by traps false asks_new_end.state 0 (whats.Bytes 1 Down (codes "ab"))

abbrev dies_closed_end : Outcome (List Call)
dies_closed_end = end_by [] dies_closed_turn

dies_closed_there : ends_there [] dies_closed_turn ≡ true
unfolding settling digits
dies_closed_there = refl

dies_closed_told : dies_closed_end.state.host ≡ first_calls ++ call DownstreamData 2 2 0 ∷ []
unfolding settling digits
dies_closed_told = refl

dies_closed_sent : dies_closed_end.sent ≡ death_log ++ sent.Close 1 Up ∷ sent.Close 1 Down ∷ []
unfolding settling digits
dies_closed_sent = refl

dies_closed_lines : map (λ (x : TcpLine). x.number) dies_closed_end.state.room.tcp ≡ []
unfolding settling digits
dies_closed_lines = refl

abbrev closed_at_once_turn : Course (Outcome (List Call))
closed_at_once_turn = turn_by traps false dies_closed_end.state 0 (whats.Opened 2)

abbrev closed_at_once_end : Outcome (List Call)
closed_at_once_end = end_by [] closed_at_once_turn

closed_at_once_there : ends_there [] closed_at_once_turn ≡ true
unfolding settling digits
closed_at_once_there = refl

closed_at_once_told : closed_at_once_end.state.host ≡ first_calls ++ call DownstreamData 2 2 0 ∷ []
unfolding settling digits
closed_at_once_told = refl

closed_at_once_sent : closed_at_once_end.sent ≡ sent.Close 2 Down ∷ []
unfolding settling digits
closed_at_once_sent = refl

closed_at_once_lines : map (λ (x : TcpLine). x.number) closed_at_once_end.state.room.tcp ≡ []
unfolding settling digits
closed_at_once_lines = refl

abbrev dies_at_making_turn : Course (Outcome (List Call))
dies_at_making_turn = turn_by traps_first false (starts_with (one false)) 0 (whats.Opened 1)

abbrev dies_at_making_end : Outcome (List Call)
dies_at_making_end = end_by [] dies_at_making_turn

dies_at_making_there : ends_there [] dies_at_making_turn ≡ true
unfolding settling digits
dies_at_making_there = refl

dies_at_making_told : dies_at_making_end.state.host ≡ call ContextCreate 2 1 0 ∷ []
unfolding settling digits
dies_at_making_told = refl

dies_at_making_sent : dies_at_making_end.sent ≡ death_log ++ sent.Close 1 Down ∷ []
unfolding settling digits
dies_at_making_sent = refl

dies_at_making_lines : map (λ (x : TcpLine). x.number) dies_at_making_end.state.room.tcp ≡ []
unfolding settling digits
dies_at_making_lines = refl

abbrev takes_128_turn : Course (Outcome (List Call))
takes_128_turn = crowded_turn 127 (whats.Opened 128)

abbrev takes_128_end : Outcome (List Call)
takes_128_end = end_by [] takes_128_turn

takes_128_there : ends_there [] takes_128_turn ≡ true
unfolding settling digits
takes_128_there = refl

takes_128_told : takes_128_end.state.host ≡ []
unfolding settling digits
takes_128_told = refl

takes_128_sent : takes_128_end.sent ≡ sent.Connect 128 ∷ []
unfolding settling digits
takes_128_sent = refl

takes_128_lines : map (λ (x : TcpLine). x.number) takes_128_end.state.room.tcp ≡ map (λ (x : TcpLine). x.number) (lines_up_to 128)
unfolding settling digits
takes_128_lines = refl

abbrev closes_129_turn : Course (Outcome (List Call))
closes_129_turn = crowded_turn 128 (whats.Opened 129)

abbrev closes_129_end : Outcome (List Call)
closes_129_end = end_by [] closes_129_turn

closes_129_there : ends_there [] closes_129_turn ≡ true
unfolding settling digits
closes_129_there = refl

closes_129_told : closes_129_end.state.host ≡ []
unfolding settling digits
closes_129_told = refl

closes_129_sent : closes_129_end.sent ≡ sent.Close 129 Down ∷ []
unfolding settling digits
closes_129_sent = refl

closes_129_lines : map (λ (x : TcpLine). x.number) closes_129_end.state.room.tcp ≡ map (λ (x : TcpLine). x.number) (lines_up_to 128)
unfolding settling digits
closes_129_lines = refl

abbrev opens_open_turn : Course (Outcome (List Call))
opens_open_turn = turn_by [] true (starts_with (one true)) 0 (whats.Opened 1)

abbrev opens_open_end : Outcome (List Call)
opens_open_end = end_by [] opens_open_turn

opens_open_there : ends_there [] opens_open_turn ≡ true
unfolding settling digits
opens_open_there = refl

opens_open_told : opens_open_end.state.host ≡ first_calls
unfolding settling digits
opens_open_told = refl

opens_open_sent : opens_open_end.sent ≡ sent.Connect 1 ∷ []
unfolding settling digits
opens_open_sent = refl

opens_open_lines : map (λ (x : TcpLine). x.number) opens_open_end.state.room.tcp ≡ 1 ∷ []
unfolding settling digits
opens_open_lines = refl

abbrev dies_open_turn : Course (Outcome (List Call))
dies_open_turn = turn_by traps true opens_open_end.state 0 (whats.Bytes 1 Down (codes "ab"))

abbrev dies_open_end : Outcome (List Call)
dies_open_end = end_by [] dies_open_turn

dies_open_there : ends_there [] dies_open_turn ≡ true
unfolding settling digits
dies_open_there = refl

dies_open_told : dies_open_end.state.host ≡ first_calls ++ call DownstreamData 2 2 0 ∷ []
unfolding settling digits
dies_open_told = refl

dies_open_sent : dies_open_end.sent ≡ death_log ++ sent.Bytes 1 Up (codes "ab") ∷ []
unfolding settling digits
dies_open_sent = refl

dies_open_lines : map (λ (x : TcpLine). x.number) dies_open_end.state.room.tcp ≡ 1 ∷ []
unfolding settling digits
dies_open_lines = refl

abbrev skips_dead_turn : Course (Outcome (List Call))
skips_dead_turn = turn_by traps true dies_open_end.state 0 (whats.Opened 2)

abbrev skips_dead_end : Outcome (List Call)
skips_dead_end = end_by [] skips_dead_turn

skips_dead_there : ends_there [] skips_dead_turn ≡ true
unfolding settling digits
skips_dead_there = refl

skips_dead_told : skips_dead_end.state.host ≡ first_calls ++ call DownstreamData 2 2 0 ∷ []
unfolding settling digits
skips_dead_told = refl

skips_dead_sent : skips_dead_end.sent ≡ sent.Connect 2 ∷ []
unfolding settling digits
skips_dead_sent = refl

skips_dead_lines : map (λ (x : TcpLine). x.number) skips_dead_end.state.room.tcp ≡ 1 ∷ 2 ∷ []
unfolding settling digits
skips_dead_lines = refl

abbrev opens_two_turn : Course (Outcome (List Call))
opens_two_turn = turn_of_two (starts_with two) 0 (whats.Opened 1)

abbrev opens_two_end : Outcome (List Call)
opens_two_end = end_by [] opens_two_turn

opens_two_there : ends_there [] opens_two_turn ≡ true
unfolding settling digits
opens_two_there = refl

opens_two_told : opens_two_end.state.host ≡ first_calls_of_two
unfolding settling digits
opens_two_told = refl

opens_two_sent : opens_two_end.sent ≡ sent.Connect 1 ∷ []
unfolding settling digits
opens_two_sent = refl

opens_two_lines : map (λ (x : TcpLine). x.number) opens_two_end.state.room.tcp ≡ 1 ∷ []
unfolding settling digits
opens_two_lines = refl

abbrev back_in_reverse_turn : Course (Outcome (List Call))
back_in_reverse_turn = turn_of_two opens_two_end.state 0 (whats.Bytes 1 Up (codes "c"))

abbrev back_in_reverse_end : Outcome (List Call)
back_in_reverse_end = end_by [] back_in_reverse_turn

back_in_reverse_there : ends_there [] back_in_reverse_turn ≡ true
unfolding settling digits
back_in_reverse_there = refl

back_in_reverse_told : back_in_reverse_end.state.host ≡ first_calls_of_two ++ call UpstreamData 4 1 0 ∷ call UpstreamData 3 1 0 ∷ []
unfolding settling digits
back_in_reverse_told = refl

back_in_reverse_sent : back_in_reverse_end.sent ≡ sent.Bytes 1 Down (codes "c") ∷ []
unfolding settling digits
back_in_reverse_sent = refl

back_in_reverse_lines : map (λ (x : TcpLine). x.number) back_in_reverse_end.state.room.tcp ≡ 1 ∷ []
unfolding settling digits
back_in_reverse_lines = refl

abbrev server_gone_turn : Course (Outcome (List Call))
server_gone_turn = turn_of_two opens_two_end.state 0 (whats.Gone 1 Up)

abbrev server_gone_end : Outcome (List Call)
server_gone_end = end_by [] server_gone_turn

server_gone_there : ends_there [] server_gone_turn ≡ true
unfolding settling digits
server_gone_there = refl

server_gone_told : server_gone_end.state.host ≡ first_calls_of_two ++ last_calls_of_two
unfolding settling digits
server_gone_told = refl

server_gone_sent : server_gone_end.sent ≡ sent.Close 1 Up ∷ sent.Close 1 Down ∷ []
unfolding settling digits
server_gone_sent = refl

server_gone_lines : map (λ (x : TcpLine). x.number) server_gone_end.state.room.tcp ≡ []
unfolding settling digits
server_gone_lines = refl

abbrev calls_out_at_new_turn : Course (Outcome (List Call))
calls_out_at_new_turn = turn_by calls_first false (starts_with (one false)) 0 (whats.Opened 1)

abbrev calls_out_at_new_end : Outcome (List Call)
calls_out_at_new_end = end_by [] calls_out_at_new_turn

calls_out_at_new_there : ends_there [] calls_out_at_new_turn ≡ true
unfolding settling httparse_on_literals httpdate_on_literals digits year_from month_from is_token_byte
calls_out_at_new_there = refl

calls_out_at_new_told : calls_out_at_new_end.state.host ≡ first_calls
unfolding settling httparse_on_literals httpdate_on_literals digits year_from month_from is_token_byte
calls_out_at_new_told = refl

calls_out_at_new_sent : calls_out_at_new_end.sent ≡ first_out
unfolding settling httparse_on_literals httpdate_on_literals digits year_from month_from is_token_byte
calls_out_at_new_sent = refl

calls_out_at_new_lines : map (λ (x : TcpLine). x.number) calls_out_at_new_end.state.room.tcp ≡ 1 ∷ []
unfolding settling httparse_on_literals httpdate_on_literals digits year_from month_from is_token_byte
calls_out_at_new_lines = refl

abbrev goes_on_after_call_turn : Course (Outcome (List Call))
goes_on_after_call_turn = turn_by calls_first false calls_out_at_new_end.state 1000000000 whats.Clock

abbrev goes_on_after_call_end : Outcome (List Call)
goes_on_after_call_end = end_by [] goes_on_after_call_turn

goes_on_after_call_there : ends_there [] goes_on_after_call_turn ≡ true
unfolding settling httparse_on_literals httpdate_on_literals digits year_from month_from is_token_byte
goes_on_after_call_there = refl

goes_on_after_call_told : goes_on_after_call_end.state.host ≡ first_calls ++ call Tick 1 0 0 ∷ call CallAnswered 2 1 0 ∷ []
unfolding settling httparse_on_literals httpdate_on_literals digits year_from month_from is_token_byte
goes_on_after_call_told = refl

goes_on_after_call_sent : goes_on_after_call_end.sent ≡ first_closed ++ sent.Connect 1 ∷ []
unfolding settling httparse_on_literals httpdate_on_literals digits year_from month_from is_token_byte
goes_on_after_call_sent = refl

goes_on_after_call_lines : map (λ (x : TcpLine). x.number) goes_on_after_call_end.state.room.tcp ≡ 1 ∷ []
unfolding settling httparse_on_literals httpdate_on_literals digits year_from month_from is_token_byte
goes_on_after_call_lines = refl

pub stream_examples : StreamExamples
stream_examples = record {
  connects = record { end = connects_end; reaches = reaches_by [] connects_turn connects_there tt; called = connects_told; hands_over = connects_sent; leaves = connects_lines };
  sends_up = record { end = sends_up_end; reaches = reaches_by [] sends_up_turn sends_up_there tt; called = sends_up_told; hands_over = sends_up_sent; leaves = sends_up_lines };
  sends_down = record { end = sends_down_end; reaches = reaches_by [] sends_down_turn sends_down_there tt; called = sends_down_told; hands_over = sends_down_sent; leaves = sends_down_lines };
  client_ends = record { end = client_ends_end; reaches = reaches_by [] client_ends_turn client_ends_there tt; called = client_ends_told; hands_over = client_ends_sent; leaves = client_ends_lines };
  server_ends = record { end = server_ends_end; reaches = reaches_by [] server_ends_turn server_ends_there tt; called = server_ends_told; hands_over = server_ends_sent; leaves = server_ends_lines };
  asks_new = record { end = asks_new_end; reaches = reaches_by [] asks_new_turn asks_new_there tt; called = asks_new_told; hands_over = asks_new_sent; leaves = asks_new_lines };
  asks_data = record { end = asks_data_end; reaches = reaches_by [] asks_data_turn asks_data_there tt; called = asks_data_told; hands_over = asks_data_sent; leaves = asks_data_lines };
  asks_end = record { end = asks_end_end; reaches = reaches_by [] asks_end_turn asks_end_there tt; called = asks_end_told; hands_over = asks_end_sent; leaves = asks_end_lines };
  asks_refused = record { end = asks_refused_end; reaches = reaches_by [] asks_refused_turn asks_refused_there tt; called = asks_refused_told; hands_over = asks_refused_sent; leaves = asks_refused_lines };
  pauses_new = record { end = pauses_new_end; reaches = reaches_by [] pauses_new_turn pauses_new_there tt; called = pauses_new_told; hands_over = pauses_new_sent; leaves = pauses_new_lines };
  bytes_wait = record { end = bytes_wait_end; reaches = reaches_by [] bytes_wait_turn bytes_wait_there tt; called = bytes_wait_told; hands_over = bytes_wait_sent; leaves = bytes_wait_lines };
  end_waits = record { end = end_waits_end; reaches = reaches_by [] end_waits_turn end_waits_there tt; called = end_waits_told; hands_over = end_waits_sent; leaves = end_waits_lines };
  nothing_up_yet = record { end = nothing_up_yet_end; reaches = reaches_by [] nothing_up_yet_turn nothing_up_yet_there tt; called = nothing_up_yet_told; hands_over = nothing_up_yet_sent; leaves = nothing_up_yet_lines };
  tick_lets_go = record { end = tick_lets_go_end; reaches = reaches_by [] tick_lets_go_turn tick_lets_go_there tt; called = tick_lets_go_told; hands_over = tick_lets_go_sent; leaves = tick_lets_go_lines };
  gone_before = record { end = gone_before_end; reaches = reaches_by [] gone_before_turn gone_before_there tt; called = gone_before_told; hands_over = gone_before_sent; leaves = gone_before_lines };
  answer_decides = record { end = answer_decides_end; reaches = reaches_by [] answer_decides_turn answer_decides_there tt; called = answer_decides_told; hands_over = answer_decides_sent; leaves = answer_decides_lines };
  holds_new = record { end = holds_new_end; reaches = reaches_by [] holds_new_turn holds_new_there tt; called = holds_new_told; hands_over = holds_new_sent; leaves = holds_new_lines };
  holds_first = record { end = holds_first_end; reaches = reaches_by [] holds_first_turn holds_first_there tt; called = holds_first_told; hands_over = holds_first_sent; leaves = holds_first_lines };
  goes_with_second = record { end = goes_with_second_end; reaches = reaches_by [] goes_with_second_turn goes_with_second_there tt; called = goes_with_second_told; hands_over = goes_with_second_sent; leaves = goes_with_second_lines };
  closes_stream = record { end = closes_stream_end; reaches = reaches_by [] closes_stream_turn closes_stream_there tt; called = closes_stream_told; hands_over = closes_stream_sent; leaves = closes_stream_lines };
  dies_closed = record { end = dies_closed_end; reaches = reaches_by [] dies_closed_turn dies_closed_there tt; called = dies_closed_told; hands_over = dies_closed_sent; leaves = dies_closed_lines };
  closed_at_once = record { end = closed_at_once_end; reaches = reaches_by [] closed_at_once_turn closed_at_once_there tt; called = closed_at_once_told; hands_over = closed_at_once_sent; leaves = closed_at_once_lines };
  dies_at_making = record { end = dies_at_making_end; reaches = reaches_by [] dies_at_making_turn dies_at_making_there tt; called = dies_at_making_told; hands_over = dies_at_making_sent; leaves = dies_at_making_lines };
  takes_128 = record { end = takes_128_end; reaches = reaches_by [] takes_128_turn takes_128_there tt; called = takes_128_told; hands_over = takes_128_sent; leaves = takes_128_lines };
  closes_129 = record { end = closes_129_end; reaches = reaches_by [] closes_129_turn closes_129_there tt; called = closes_129_told; hands_over = closes_129_sent; leaves = closes_129_lines };
  opens_open = record { end = opens_open_end; reaches = reaches_by [] opens_open_turn opens_open_there tt; called = opens_open_told; hands_over = opens_open_sent; leaves = opens_open_lines };
  dies_open = record { end = dies_open_end; reaches = reaches_by [] dies_open_turn dies_open_there tt; called = dies_open_told; hands_over = dies_open_sent; leaves = dies_open_lines };
  skips_dead = record { end = skips_dead_end; reaches = reaches_by [] skips_dead_turn skips_dead_there tt; called = skips_dead_told; hands_over = skips_dead_sent; leaves = skips_dead_lines };
  calls_out_at_new = record { end = calls_out_at_new_end; reaches = reaches_by [] calls_out_at_new_turn calls_out_at_new_there tt; called = calls_out_at_new_told; hands_over = calls_out_at_new_sent; leaves = calls_out_at_new_lines };
  goes_on_after_call = record { end = goes_on_after_call_end; reaches = reaches_by [] goes_on_after_call_turn goes_on_after_call_there tt; called = goes_on_after_call_told; hands_over = goes_on_after_call_sent; leaves = goes_on_after_call_lines };
  opens_two = record { end = opens_two_end; reaches = reaches_by [] opens_two_turn opens_two_there tt; called = opens_two_told; hands_over = opens_two_sent; leaves = opens_two_lines };
  back_in_reverse = record { end = back_in_reverse_end; reaches = reaches_by [] back_in_reverse_turn back_in_reverse_there tt; called = back_in_reverse_told; hands_over = back_in_reverse_sent; leaves = back_in_reverse_lines };
  server_gone = record { end = server_gone_end; reaches = reaches_by [] server_gone_turn server_gone_there tt; called = server_gone_told; hands_over = server_gone_sent; leaves = server_gone_lines };
}

pub stream_wants : StreamWants
stream_wants = record { connected = refl; not_yet = refl }
