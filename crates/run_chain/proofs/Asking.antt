-- What each line of a run's script asks for.
use Rattle.std.proofs.Common.{◌≡◌, true, refl, [], ◌∷◌, codes, None}
use Rattle.std.specs.Prelude.{⊤}
use Rattle.std.specs.Fmt.{digits}
use Rattle.std.specs.Str.{chars, is_utf8}
use Rattle.serde_json.proofs.OnLiterals.{serde_json_on_literals}
use Rattle.httparse.proofs.OnLiterals.{httparse_on_literals}
use Rattle.http_stream.specs.Body.{body_length}
use Rattle.api_calls.specs.declared.call.ApiCall.TheVariants as call
use Rattle.api_calls.specs.declared.call.SnapshotType.TheVariants as snapshot
use Rattle.api_calls.specs.declared.call.VmState.TheVariants as state
use Rattle.api_calls.specs.Call.{object_of}
use Rattle.api_calls.specs.Routes.{target_of}
use Rattle.api_calls.specs.Form.{is_in_range, is_of_kind, object_passes, passes, refusal, row_passes, together_passes}
use Rattle.run_chain.specs.Asked.{Asks, boot_body, configure_body, create_body, pause_body, resume_body, start_body}
use Rattle.run_chain.proofs.Sends.{read_as, sends}

-- what is unfolded to compute a request and its call
unfoldable pub asked_on_literals : ⊤
unfolding digits chars is_utf8 serde_json_on_literals httparse_on_literals body_length target_of object_of refusal passes object_passes row_passes is_in_range is_of_kind together_passes
asked_on_literals = tt

pub boots : Asks (codes "PUT") (codes "/boot-source") boot_body
    (call.PutBootSource (record { kernel_image_path = codes "k"; initrd_path = None; boot_args = [] }))
unfolding asked_on_literals
boots = record {
  request = read_as (codes "PUT") (codes "/boot-source") 25 boot_body;
  gives = sends (codes "PUT") (codes "/boot-source") boot_body 25 refl refl refl refl refl;
  asks = refl;
}

pub starts : Asks (codes "PUT") (codes "/actions") start_body call.InstanceStart
unfolding asked_on_literals
starts = record {
  request = read_as (codes "PUT") (codes "/actions") 31 start_body;
  gives = sends (codes "PUT") (codes "/actions") start_body 31 refl refl refl refl refl;
  asks = refl;
}

pub configures : Asks (codes "PUT") (codes "/machine-config") configure_body
    (call.PutMachineConfig (record { vcpu_count = 2; mem_size_mib = 4; track_dirty_pages = true }))
unfolding asked_on_literals
configures = record {
  request = read_as (codes "PUT") (codes "/machine-config") 58 configure_body;
  gives = sends (codes "PUT") (codes "/machine-config") configure_body 58 refl refl refl refl refl;
  asks = refl;
}

pub pauses : Asks (codes "PATCH") (codes "/vm") pause_body (call.PatchVm state.Paused)
unfolding asked_on_literals
pauses = record {
  request = read_as (codes "PATCH") (codes "/vm") 18 pause_body;
  gives = sends (codes "PATCH") (codes "/vm") pause_body 18 refl refl refl refl refl;
  asks = refl;
}

pub resumes : Asks (codes "PATCH") (codes "/vm") resume_body (call.PatchVm state.Resumed)
unfolding asked_on_literals
resumes = record {
  request = read_as (codes "PATCH") (codes "/vm") 19 resume_body;
  gives = sends (codes "PATCH") (codes "/vm") resume_body 19 refl refl refl refl refl;
  asks = refl;
}

pub creates : Asks (codes "PUT") (codes "/snapshot/create") create_body
    (call.CreateSnapshot (record {
      files = record { snapshot_path = codes "s0"; mem_file_path = codes "m0" };
      snapshot_type = snapshot.Full;
    }))
unfolding asked_on_literals
creates = record {
  request = read_as (codes "PUT") (codes "/snapshot/create") 43 create_body;
  gives = sends (codes "PUT") (codes "/snapshot/create") create_body 43 refl refl refl refl refl;
  asks = refl;
}
