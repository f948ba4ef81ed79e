-- Machines that are alike stay so where the same is changed of both.
use Rattle.std.proofs.Common.{◌≡◌, ℕ, Bool, if◌then◌else◌, zero, suc, refl, sym, ap, ◌∙◌, List, ◌∷◌, ◌++◌, length, map, Option, Some, None, inl, inr}
use Rattle.std.specs.FinMap.{insert}
use Rattle.vm_types.specs.declared.identity.Identity.{Identity}
use Rattle.serde_json.specs.Data.{Data}
use Rattle.http_stream.specs.Stream.{Connection}
use Rattle.gate_file.specs.Runs.{save_calls}
use Rattle.vm_config.specs.declared.config.Config.{Config}
use Rattle.snap_writer.specs.Create.{create_calls}
use Rattle.file_format.specs.declared.version.Version.TheVariants.{Two}
use Rattle.snap_diff.specs.Copies.{DiffCopy, diff_of, pages_at}
use Rattle.snap_diff.specs.Diffs.{stored_pages}
use Rattle.snap_state.specs.declared.copy.StateCopy.{StateCopy}
use Rattle.flat_guest.specs.Guest.{Guest, numbers_written}
use Rattle.flat_snapshot.specs.Files.{calls_of, diff_file, diff_head, diff_in, head_of, memory_file, saved_pages, state_body}
use Rattle.flat_machine.specs.Machine.{Machine}
use Rattle.alike_runs.specs.Alike.{Alike, AlikeGuests}
use Rattle.alike_runs.specs.Files.{AlikeBytes, AlikeCalls, shape_of}
use Rattle.alike_runs.specs.Files.AreFiles.{MemoryFiles, DiffFiles}
use Rattle.alike_runs.specs.Twins.{AlikeBase, IsAmong, Twins}
use Rattle.alike_runs.proofs.Calls.{calls_both, create_alike}
use Rattle.alike_runs.proofs.Files.{diff_long, memory_long, put_alike, state_long}
use Rattle.alike_runs.proofs.Guests.{memory_same}

module _ (twins : List Twins) (m n : Machine) (alike : Alike twins m n) where
  -- what the files and what is known of snapshots have nothing to do with
  pub parts : (c d : Config) (e f : Data) (u v : Connection) (o p : Option Guest) (r s : Bool) (x y : Guest) → c ≡ d → e ≡ f → u ≡ v
      → o ≡ Some x → p ≡ Some y → AlikeGuests x y → r ≡ s
      → Alike twins (record m { config = c; metadata = e; connection = u; guest = o; paused = r })
      (record n { config = d; metadata = f; connection = v; guest = p; paused = s })
  parts c d e f u v o p r s x y configs metas connections first second guests pauses = record {
    twins_are = alike.twins_are;
    id = alike.id;
    lineages = alike.lineages;
    next = alike.next;
    base = alike.base;
    config = configs;
    metadata = metas;
    connection = connections;
    saved = alike.saved;
    calls = alike.calls;
    g = x;
    h = y;
    first = first;
    second = second;
    guests = guests;
    paused = pauses;
  }

  pub with_guest : (o p : Option Guest) (x y : Guest) → o ≡ Some x → p ≡ Some y → AlikeGuests x y
      → Alike twins (record m { guest = o }) (record n { guest = p })
  with_guest o p x y first second guests =
      parts m.config n.config m.metadata n.metadata m.connection n.connection o p m.paused n.paused x y alike.config alike.metadata
      alike.connection first second guests alike.paused

  pub with_paused : (b : Bool) (o p : Option Guest) (x y : Guest) → o ≡ Some x → p ≡ Some y → AlikeGuests x y
      → Alike twins (record m { guest = o; paused = b }) (record n { guest = p; paused = b })
  with_paused b o p x y first second guests =
      parts m.config n.config m.metadata n.metadata m.connection n.connection o p b b x y alike.config alike.metadata alike.connection
      first second guests refl

  pub with_metadata : (d : Data) → Alike twins (record m { metadata = d }) (record n { metadata = d })
  with_metadata d =
      parts m.config n.config d d m.connection n.connection m.guest n.guest m.paused n.paused alike.g alike.h alike.config refl
      alike.connection alike.first alike.second alike.guests alike.paused

  pub with_connection : (c : Connection) → Alike twins (record m { connection = c }) (record n { connection = c })
  with_connection c =
      parts m.config n.config m.metadata n.metadata c c m.guest n.guest m.paused n.paused alike.g alike.h alike.config alike.metadata refl
      alike.first alike.second alike.guests alike.paused

  pub with_config : (f : Config → Config) → Alike twins (record m { config = f m.config }) (record n { config = f n.config })
  with_config f =
      parts (f m.config) (f n.config) m.metadata n.metadata m.connection n.connection m.guest n.guest m.paused n.paused alike.g alike.h
      (ap f alike.config) alike.metadata alike.connection alike.first alike.second alike.guests alike.paused

  -- the lineage, and a file that is put
  pub with_lineage : (lineage : ℕ)
      → Alike twins (record m { ids = record m.ids { lineage = lineage } }) (record n { ids = record n.ids { lineage = lineage } })
  with_lineage lineage = record {
    twins_are = alike.twins_are;
    id = alike.id;
    lineages = ((λ small. small), λ small. small);
    next = alike.next;
    base = alike.base;
    config = alike.config;
    metadata = alike.metadata;
    connection = alike.connection;
    saved = alike.saved;
    calls = alike.calls;
    g = alike.g;
    h = alike.h;
    first = alike.first;
    second = alike.second;
    guests = alike.guests;
    paused = alike.paused;
  }

  pub with_file : (name content : List ℕ) → Alike twins
      (record m { saved = insert m.saved name content; calls = m.calls ++ save_calls name content })
      (record n { saved = insert n.saved name content; calls = n.calls ++ save_calls name content })
  with_file name content = record {
    twins_are = alike.twins_are;
    id = alike.id;
    lineages = alike.lineages;
    next = alike.next;
    base = alike.base;
    config = alike.config;
    metadata = alike.metadata;
    connection = alike.connection;
    saved = put_alike twins m.saved n.saved name content content (inl refl) alike.saved;
    calls = calls_both m.calls n.calls (save_calls name content) (save_calls name content) alike.calls refl;
    g = alike.g;
    h = alike.h;
    first = alike.first;
    second = alike.second;
    guests = alike.guests;
    paused = alike.paused;
  }

-- ---- what a create writes

numbers_same : (w v : ℕ → Bool) → ((i : ℕ) → w i ≡ v i) → (i count : ℕ) → numbers_written w i count ≡ numbers_written v i count
numbers_same w v same i zero = refl
numbers_same w v same i (suc count) =
    let rest = numbers_same w v same (suc i) count in
    λ j. if same i j then i ∷ rest j else rest j

module _ (more : List Twins) (t : Twins) (among : IsAmong t more) (copy : StateCopy) (g h : Guest) (alike : AlikeGuests g h) where
  abbrev pages : ℕ
  pages = copy.pages

  bytes_same : g.memory.bytes ≡ h.memory.bytes
  bytes_same = λ i. (memory_same g h alike i).bytes

  pages_same : numbers_written g.written 0 pages ≡ numbers_written h.written 0 pages
  pages_same = numbers_same g.written h.written alike.written 0 pages

  saved_same : (a b : Option Identity) → AlikeBase more a b → saved_pages a pages g ≡ saved_pages b pages h
  saved_same None None base = bytes_same
  saved_same None (Some b) base = absurd base
  saved_same (Some a) None base = absurd base
  saved_same (Some a) (Some b) base = λ i. stored_pages Two (length (pages_same i)) (pages_at (pages_same i) (bytes_same i))

  -- the diff of the second guest is that of the first, with another parent and under another identity
  abbrev diff_at : Identity → List ℕ → List ℕ → DiffCopy
  diff_at parent numbers bytes = diff_of parent (record { identity = t.second; pages = pages; bytes = bytes }) numbers

  second_diff : (b : Identity) → diff_in b t.second pages h ≡ diff_at b (numbers_written g.written 0 pages) g.memory.bytes
  second_diff b = λ i. diff_at b (sym pages_same i) (sym bytes_same i)

  pub memory_both : (a b : Option Identity) → AlikeBase more a b
      → AlikeBytes more (1 ∷ head_of a t.first pages g ++ saved_pages a pages g) (1 ∷ head_of b t.second pages h ++ saved_pages b pages h)
  memory_both None None base =
      inr (t, among, MemoryFiles pages g.memory.bytes refl (ap (λ (l : List ℕ). memory_file t.second pages l) (sym bytes_same)))
  memory_both None (Some b) base = absurd base
  memory_both (Some a) None base = absurd base
  memory_both (Some a) (Some b) base =
      inr (t, among, DiffFiles a b (diff_in a t.first pages g) base refl (ap (λ (d : DiffCopy). diff_file d) (second_diff b)))

  head_long : (a b : Option Identity) → AlikeBase more a b → length (head_of a t.first pages g) ≡ length (head_of b t.second pages h)
  head_long None None base = memory_long pages t.first t.second
  head_long None (Some b) base = absurd base
  head_long (Some a) None base = absurd base
  head_long (Some a) (Some b) base =
      diff_long a b t.first t.second (diff_in a t.first pages g) ∙ ap (λ (d : DiffCopy). length (diff_head d)) (sym (second_diff b))

  pub calls_alike : (memory state : List ℕ) (a b : Option Identity) → AlikeBase more a b
      → AlikeCalls (calls_of memory state a t.first copy g) (calls_of memory state b t.second copy h)
  calls_alike memory state a b base =
      create_alike memory (head_of a t.first pages g) (head_of b t.second pages h) (saved_pages a pages g) state
      (state_body t.first copy) (state_body t.second copy) (head_long a b base) (state_long t.first t.second copy)
      ∙ ap (λ (l : List ℕ). map shape_of (create_calls memory (head_of b t.second pages h) l state (state_body t.second copy)))
      (saved_same a b base)
