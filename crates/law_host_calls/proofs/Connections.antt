-- The rows of these examples hold by computation.
use Rattle.std.proofs.Common.{refl}
use Rattle.http_header.specs.Token.{is_token_byte}
use Rattle.wasm_syntax.specs.ReductionRuns.{walk, walk_hosted}
use Rattle.law_host_calls.specs.Connections.{ConnectionBuffers, ConnectionPaths, ConnectionStreams}

pub connection_buffers : ConnectionBuffers
unfolding is_token_byte walk walk_hosted
connection_buffers = record {
  of_client = refl;
  of_server = refl;
  of_request = refl;
  of_response = refl;
  of_vm = refl;
  no_such = refl;
  size = refl;
  no_size = refl;
  client_becomes = refl;
  server_becomes = refl;
  no_request_becomes = refl;
  no_map = refl;
}

pub connection_streams : ConnectionStreams
unfolding is_token_byte walk walk_hosted
connection_streams = record {
  client_continues = refl;
  server_continues = refl;
  client_closes = refl;
  server_closes = refl;
  no_request = refl;
  no_response = refl;
  no_such = refl;
  of_root = refl;
  root_closes = refl;
  no_local = refl;
  status_below = refl;
  root_responds = refl;
  no_pairs = refl;
}

pub connection_paths : ConnectionPaths
unfolding is_token_byte walk walk_hosted
connection_paths = record {
  no_path = refl;
  path_is_kept = refl;
  method_is_kept = refl;
  host_is_kept = refl;
  scheme_is_kept = refl;
  without_exchange = refl;
  of_root = refl;
}
