-- Defines the version of the library and of its header.
use Rattle.wf_c.specs.declared.version.Version.{Version}

-- as WF_VERSION_MAJOR, WF_VERSION_MINOR and WF_VERSION_PATCH of the header
abbrev pub this_version : Version
this_version = record { major = 1; minor = 0; patch = 0 }
