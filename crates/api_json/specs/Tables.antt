-- The tables of the code, as the definitions have them.
use Rattle.std.specs.Prelude.{map}
use Rattle.api_calls.specs.Form as form
use Rattle.api_calls.specs.Routes as routes
use Rattle.api_json.specs.declared.form.Kind.{Kind}
use Rattle.api_json.specs.declared.form.Kind.TheVariants.{Path, Id, Ids, Mac, Address, Text, Choice, Whole, Flag, Unset, Group}
use Rattle.api_json.specs.declared.form.Row.{Row}
use Rattle.api_json.specs.declared.levels.Level.{Level}
use Rattle.api_json.specs.declared.levels.Together.{Together}
use Rattle.api_json.specs.declared.levels.Together.TheVariants.{Free, SomeOf, Either, Differing, Naming}
use Rattle.api_json.specs.declared.levels.Form.{Form}
use Rattle.api_json.specs.declared.routes.Pattern.{Pattern}
use Rattle.api_json.specs.declared.routes.Pattern.TheVariants.{Fixed, Folder}
use Rattle.api_json.specs.declared.routes.Route.{Route}
use Rattle.api_json.specs.declared.routes.Target.{Target}

abbrev pub kind_of : Kind → form.Kind
kind_of Path = form.path
kind_of Id = form.id
kind_of Ids = form.ids
kind_of Mac = form.mac
kind_of Address = form.address
kind_of (Text most) = form.text most
kind_of (Choice texts) = form.choice (map (λ t. t.now) texts.now)
kind_of (Whole least most) = form.whole least most
kind_of Flag = form.flag
kind_of Unset = form.unset
kind_of Group = form.group

abbrev pub row_of : Row → form.Row
row_of r = record { name = r.name.now; required = r.required; kind = kind_of r.kind }

abbrev pub level_of : Level → form.Level
level_of l = record { place = map (λ t. t.now) l.place.now; rows = map row_of l.rows.now }

abbrev pub together_of : Together → form.Together
together_of Free = form.free
together_of (SomeOf names) = form.some_of (map (λ t. t.now) names.now)
together_of (Either one other) = form.either one.now other.now
together_of (Differing one other) = form.differing one.now other.now
together_of (Naming name due) = form.naming name.now due.now

abbrev pub form_of : Form → form.Form
form_of f = record { levels = map level_of f.levels.now; together = together_of f.together }

abbrev pub pattern_of : Pattern → routes.Pattern
pattern_of (Fixed path) = routes.fixed path.now
pattern_of (Folder path) = routes.folder path.now

abbrev pub route_of : Route → routes.Route
route_of r = record { pattern = pattern_of r.pattern; method = r.method.now; endpoint = r.endpoint }

abbrev pub target_of : Target → routes.Target
target_of t = record { endpoint = t.endpoint; id = t.id.now }
