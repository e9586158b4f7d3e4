mod NestedScripts
