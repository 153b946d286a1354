-- The functions that a filter's module may export for the gateway: their names, what they take, and whether they give a number.
use Rattle.std.specs.Prelude.{ℕ, Bool, true, false, List, [], ◌∷◌, Option, bytes_eq, codes}
use Rattle.std.specs.List.{find}
use Rattle.abi_model.specs.declared.table.Param.{Param}
use Rattle.abi_model.specs.declared.table.Param.TheVariants.{Number}
use Rattle.vm_host.specs.declared.roles.Role.{Role}
use Rattle.vm_host.specs.declared.roles.Role.TheVariants as role

abbrev pub role_name : Role → List ℕ
role_name role.Initialize = codes "_initialize"
role_name role.Start = codes "_start"
role_name role.MemoryAllocate = codes "proxy_on_memory_allocate"
role_name role.Malloc = codes "malloc"
role_name role.ContextCreate = codes "proxy_on_context_create"
role_name role.VmStart = codes "proxy_on_vm_start"
role_name role.Configure = codes "proxy_on_configure"
role_name role.Tick = codes "proxy_on_tick"
role_name role.Log = codes "proxy_on_log"
role_name role.Delete = codes "proxy_on_delete"
role_name role.QueueReady = codes "proxy_on_queue_ready"
role_name role.RequestHeaders = codes "proxy_on_request_headers"
role_name role.ResponseHeaders = codes "proxy_on_response_headers"
role_name role.RequestBody = codes "proxy_on_request_body"
role_name role.ResponseBody = codes "proxy_on_response_body"
role_name role.RequestTrailers = codes "proxy_on_request_trailers"
role_name role.ResponseTrailers = codes "proxy_on_response_trailers"
role_name role.Done = codes "proxy_on_done"
role_name role.CallAnswered = codes "proxy_on_http_call_response"
role_name role.NewConnection = codes "proxy_on_new_connection"
role_name role.DownstreamData = codes "proxy_on_downstream_data"
role_name role.UpstreamData = codes "proxy_on_upstream_data"
role_name role.DownstreamClose = codes "proxy_on_downstream_connection_close"
role_name role.UpstreamClose = codes "proxy_on_upstream_connection_close"

abbrev pub role_row : Role → List Param
role_row role.Initialize = []
role_row role.Start = []
role_row role.MemoryAllocate = Number ∷ []
role_row role.Malloc = Number ∷ []
role_row role.ContextCreate = Number ∷ Number ∷ []
role_row role.VmStart = Number ∷ Number ∷ []
role_row role.Configure = Number ∷ Number ∷ []
role_row role.Tick = Number ∷ []
role_row role.Log = Number ∷ []
role_row role.Delete = Number ∷ []
role_row role.QueueReady = Number ∷ Number ∷ []
role_row role.RequestHeaders = Number ∷ Number ∷ Number ∷ []
role_row role.ResponseHeaders = Number ∷ Number ∷ Number ∷ []
role_row role.RequestBody = Number ∷ Number ∷ Number ∷ []
role_row role.ResponseBody = Number ∷ Number ∷ Number ∷ []
role_row role.RequestTrailers = Number ∷ Number ∷ []
role_row role.ResponseTrailers = Number ∷ Number ∷ []
role_row role.Done = Number ∷ []
role_row role.CallAnswered = Number ∷ Number ∷ Number ∷ Number ∷ Number ∷ []
role_row role.NewConnection = Number ∷ []
role_row role.DownstreamData = Number ∷ Number ∷ Number ∷ []
role_row role.UpstreamData = Number ∷ Number ∷ Number ∷ []
role_row role.DownstreamClose = Number ∷ Number ∷ []
role_row role.UpstreamClose = Number ∷ Number ∷ []

abbrev pub gives_number : Role → Bool
gives_number role.Initialize = false
gives_number role.Start = false
gives_number role.MemoryAllocate = true
gives_number role.Malloc = true
gives_number role.ContextCreate = false
gives_number role.VmStart = true
gives_number role.Configure = true
gives_number role.Tick = false
gives_number role.Log = false
gives_number role.Delete = false
gives_number role.QueueReady = false
gives_number role.RequestHeaders = true
gives_number role.ResponseHeaders = true
gives_number role.RequestBody = true
gives_number role.ResponseBody = true
gives_number role.RequestTrailers = true
gives_number role.ResponseTrailers = true
gives_number role.Done = true
gives_number role.CallAnswered = false
gives_number role.NewConnection = true
gives_number role.DownstreamData = true
gives_number role.UpstreamData = true
gives_number role.DownstreamClose = false
gives_number role.UpstreamClose = false

abbrev pub place_of : Role → ℕ
place_of role.Initialize = 0
place_of role.Start = 1
place_of role.MemoryAllocate = 2
place_of role.Malloc = 3
place_of role.ContextCreate = 4
place_of role.VmStart = 5
place_of role.Configure = 6
place_of role.Tick = 7
place_of role.Log = 8
place_of role.Delete = 9
place_of role.QueueReady = 10
place_of role.RequestHeaders = 11
place_of role.ResponseHeaders = 12
place_of role.RequestBody = 13
place_of role.ResponseBody = 14
place_of role.RequestTrailers = 15
place_of role.ResponseTrailers = 16
place_of role.Done = 17
place_of role.CallAnswered = 18
place_of role.NewConnection = 19
place_of role.DownstreamData = 20
place_of role.UpstreamData = 21
place_of role.DownstreamClose = 22
place_of role.UpstreamClose = 23

abbrev pub all_roles : List Role
all_roles = role.Initialize ∷ role.Start ∷ role.MemoryAllocate ∷ role.Malloc ∷ role.ContextCreate ∷ role.VmStart ∷ role.Configure ∷ role.Tick ∷ role.Log ∷ role.Delete ∷ role.QueueReady ∷ role.RequestHeaders ∷ role.ResponseHeaders ∷ role.RequestBody ∷ role.ResponseBody ∷ role.RequestTrailers ∷ role.ResponseTrailers ∷ role.Done ∷ role.CallAnswered ∷ role.NewConnection ∷ role.DownstreamData ∷ role.UpstreamData ∷ role.DownstreamClose ∷ role.UpstreamClose ∷ []

-- THE ONE of a name
unfoldable pub role_named : List ℕ → Option Role
role_named name = find (λ r. bytes_eq (role_name r) name) all_roles
