-- What a line of a script asks for, where it comes on a connection that holds nothing.
use Rattle.std.specs.Prelude.{◌≡◌, ℕ, false, List, [], ◌++◌, Ok, codes}
use Rattle.std.specs.Fmt.{decimal}
use Rattle.http_stream.specs.declared.request.Next.TheVariants as next
use Rattle.http_stream.specs.declared.request.Request.{Request}
use Rattle.http_stream.specs.Sent.{sent}
use Rattle.http_stream.specs.Stream.{Judged}
use Rattle.api_calls.specs.declared.call.ApiCall.{ApiCall}
use Rattle.api_calls.specs.Call.{call_of}

-- the bytes give one request, nothing is left of them, and the request asks for this
pub record Asks (method path body : List ℕ) (c : ApiCall) : Type 0 where
  pub request : Request
  pub gives : Judged (sent method path body) (record {
    next = next.Request request;
    after = record { pending = []; failed = false };
  })
  pub asks : call_of request ≡ Ok c

-- the bodies, as the script has them
abbrev pub boot_body : List ℕ
boot_body = codes "{\"kernel_image_path\":\"k\"}"

abbrev pub configure_body : List ℕ
configure_body = codes "{\"vcpu_count\":2,\"mem_size_mib\":4,\"track_dirty_pages\":true}"

abbrev pub start_body : List ℕ
start_body = codes "{\"action_type\":\"InstanceStart\"}"

abbrev pub pause_body : List ℕ
pause_body = codes "{\"state\":\"" ++ codes "Paused" ++ codes "\"}"

abbrev pub resume_body : List ℕ
resume_body = codes "{\"state\":\"" ++ codes "Resumed" ++ codes "\"}"

abbrev pub create_body : List ℕ
create_body = codes "{\"snapshot_path\":\"s0\",\"mem_file_path\":\"m0\"}"

abbrev pub diff_body : ℕ → List ℕ
diff_body i =
    codes "{\"snapshot_type\":\"Diff\",\"snapshot_path\":\"s" ++ decimal i ++ codes "\",\"mem_file_path\":\"d" ++ decimal i ++ codes "\"}"

abbrev pub load_body : ℕ → List ℕ
load_body rounds = codes "{\"snapshot_path\":\"s" ++ decimal rounds ++ codes "\",\"mem_file_path\":\"m0\"}"
